-- Edits that ask nothing of comments: each source has one result, which is that of `edit_all` wherever that edits it.
use Rattle.std.proofs.Common.{◌≡◌, ℕ, true, List, [], ◌∷◌, refl, inl, inr, arith}
use Rattle.std.specs.Prelude.{if◌then◌else◌}
use Rattle.std.proofs.lemmas.Bool.{cases_Bool, cond-true}
use Rattle.properties_format.specs.Encoding.{Encoding, byte_order_mark, Repertoire}
use Rattle.properties_format.specs.Lines.{end, InputEnd, Line, line_endings, numbered_lines}
use Rattle.properties_format.specs.Computed.Encoding.{decoded_of}
use Rattle.properties_format.specs.Computed.Lines.{lines_of, groups_of}
use Rattle.properties_format.specs.Items.{AreItems}
use Rattle.properties_format.specs.Escapes.{Malformed}
use Rattle.properties_format.specs.Found.{MalformedEscape}
use Rattle.properties_format.specs.Computed.Items.{entries_of, items_of}
use Rattle.properties_format.specs.Computed.Found.{escapes_in}
use Rattle.properties_format.specs.Edited.{EditResult, edited, unsupported, unreadable, is_editable}
use Rattle.properties_format.specs.Edits.{Edit, AreInComments, AreInPairs, EscapesAre, IsFirstInPair, IsPairsResult, IsEditPairsResult}
use Rattle.properties_format.specs.EditLaws.{PassingOverIsReading}
use Rattle.properties_format.proofs.MalformedEscapes.{malformed_escapes_of-meets, malformed_escapes_of-only, malformed_escapes_of}
use Rattle.properties_format.specs.Laws.{HasOne}
use Rattle.properties_format.proofs.Laws.{one}
use Rattle.properties_format.proofs.Edits.Results.{same-results, edit_all_result, edits_made-meets, edits_made-only, edits_made}
use Rattle.properties_format.proofs.Edited.Results.{result_by, result_of}

-- the result, given the malformed escapes of the source: the first that is in a pair, or these bytes if none is
abbrev pub result_by_pairs : List MalformedEscape → List ℕ → EditResult
result_by_pairs [] made = edited made
result_by_pairs (m ∷ ms) made = if m.in_comment then result_by_pairs ms made else unreadable m.kind m.number

-- the result of an edit that makes these bytes of the source; the encoding is tested first
abbrev pub pairs_result_of : Encoding → List ℕ → List ℕ → EditResult
pairs_result_of e source made = if is_editable (byte_order_mark e source).encoding then result_by_pairs (malformed_escapes_of e source) made else unsupported

-- what the malformed escapes say about a result that is made of these bytes
abbrev IsByPairs : List MalformedEscape → List ℕ → EditResult → Type 0
IsByPairs ms made (edited result) = AreInComments ms × (result ≡ made)
IsByPairs ms made unsupported = ⊥
IsByPairs ms made (unreadable kind n) = IsFirstInPair kind n ms

by-meets : (ms : List MalformedEscape) (made : List ℕ) → IsByPairs ms made (result_by_pairs ms made)
by-meets [] made = (tt, refl)
by-meets (m ∷ ms) made = grind (arith, by-meets ms made)

pub by-edited : (ms : List MalformedEscape) (made : List ℕ) → AreInComments ms → result_by_pairs ms made ≡ edited made
by-edited [] made h = refl
by-edited (m ∷ ms) made h = rw h.0 (by-edited ms made h.1)

by-unreadable : (ms : List MalformedEscape) (made : List ℕ) (kind : Malformed) (n : ℕ) → IsFirstInPair kind n ms → result_by_pairs ms made ≡ unreadable kind n
by-unreadable [] made kind n h = absurd h
by-unreadable (m ∷ ms) made kind n (inl h) = rw (h.0, h.1, h.2)
by-unreadable (m ∷ ms) made kind n (inr h) = rw h.0 (by-unreadable ms made kind n h.1)

by-result : (e : Encoding) (source made : List ℕ) (Makes : List ℕ → Type 0) (r : EditResult) → is_editable (byte_order_mark e source).encoding ≡ true
    → Makes made → IsByPairs (malformed_escapes_of e source) made r → IsPairsResult e source Makes r
by-result e source made Makes r ok m h = grind (arith, malformed_escapes_of-meets e source)

pub pairs_result-editable : (e : Encoding) (source made : List ℕ) → is_editable (byte_order_mark e source).encoding ≡ true
    → pairs_result_of e source made ≡ result_by_pairs (malformed_escapes_of e source) made
pairs_result-editable e source made ok = cond-true (is_editable (byte_order_mark e source).encoding) _ _ ok

-- The result with these bytes, if the edit makes them, is a result of the edit.
pub pairs_result_of-meets : (e : Encoding) (source made : List ℕ) (Makes : List ℕ → Type 0)
    → (is_editable (byte_order_mark e source).encoding ≡ true → Makes made) → IsPairsResult e source Makes (pairs_result_of e source made)
pairs_result_of-meets e source made Makes m = elim (cases_Bool (is_editable (byte_order_mark e source).encoding)) [
  | inl ok ↦ rw ok (by-result e source made Makes _ ok (m ok) (by-meets (malformed_escapes_of e source) made))
  | inr h ↦ rw h h
]

-- If the edit makes no other bytes, there is no other result.
pub pairs_result_of-only : (e : Encoding) (source made : List ℕ) (Makes : List ℕ → Type 0) (r : EditResult)
    → (is_editable (byte_order_mark e source).encoding ≡ true → (result : List ℕ) → Makes result → result ≡ made)
    → IsPairsResult e source Makes r → r ≡ pairs_result_of e source made
pairs_result_of-only e source made Makes (edited result) one (ok, found, h) =
    rw (ok, one ok result h, by-edited (malformed_escapes_of e source) made (rw (malformed_escapes_of-only e source found.0 found.1) at found.2))
pairs_result_of-only e source made Makes unsupported one h = rw h
pairs_result_of-only e source made Makes (unreadable kind n) one (ok, found) =
    rw (ok, by-unreadable (malformed_escapes_of e source) made kind n (rw (malformed_escapes_of-only e source found.0 found.1) at found.2))

-- Edits in turn have one result.
abbrev pub edit_pairs_result : (r : Repertoire) (source : List ℕ) (edits : List Edit) → HasOne (IsEditPairsResult r source edits)
edit_pairs_result r source edits =
    one (pairs_result_of r.encoding source (edits_made r source edits)) (pairs_result_of-meets r.encoding source _ _ (edits_made-meets r source edits))
    (λ other h. pairs_result_of-only r.encoding source _ _ other (λ ok result. edits_made-only r source edits result ok) h)

-- ---- sources without malformed escapes in comments

same-groups : (n : ℕ) (gs : List (List Line)) (made : List ℕ) → AreInPairs (escapes_in gs)
    → result_by_pairs (escapes_in gs) made ≡ result_by (entries_of n end gs) made
same-groups n [] made h = refl
same-groups n (g ∷ gs) made h = grind (arith, same-groups n gs made)

same-results_of : (e : Encoding) (source made : List ℕ) → EscapesAre e source AreInPairs → pairs_result_of e source made ≡ result_of e source made
unfolding items_of malformed_escapes_of
same-results_of e source made h =
    let lines = lines_of (decoded_of e source) in
    rw (same-groups (line_endings lines) (groups_of (numbered_lines lines end) end) made (rw (malformed_escapes_of-only e source h.0 h.1) at h.2))

-- The results of such a source are the same as if its comments were read.
pub passing_over-is_reading : (r : Repertoire) (source : List ℕ) (edits : List Edit) → PassingOverIsReading r source edits
passing_over-is_reading r source edits h result =
    same-results _ _ (edit_pairs_result r source edits) (edit_all_result r source edits)
    (same-results_of r.encoding source (edits_made r source edits) h) result

-- ---- sources without malformed escapes

sound-escapes : (n : ℕ) (ending : InputEnd) (groups : List (List Line)) → AreItems (entries_of n ending groups) → escapes_in groups ≡ []
sound-escapes n ending [] h = refl
sound-escapes n ending (g ∷ gs) h = grind (arith, sound-escapes n ending gs)

pub no-escapes : (e : Encoding) (source : List ℕ) → AreItems (items_of e source end) → malformed_escapes_of e source ≡ []
unfolding items_of malformed_escapes_of
no-escapes e source h =
    let lines = lines_of (decoded_of e source) in
    sound-escapes (line_endings lines) end (groups_of (numbered_lines lines end) end) h
