-- What an edit of a source comes to.
use Rattle.std.proofs.Common.{◌≡◌, ◌==◌, ℕ, ◌+◌, ◌-◌, List, [], ◌∷◌, ◌++◌, All, length, take, drop, refl, ap, ap₂, sym, ◌∙◌, subst, inl, inr, append-nil, length-append, length-drop, arith, lit<, ◌<◌, get_or}
use Rattle.std.specs.Prelude.{Bool, true, false, Result, Ok, Err, IsErrAnd, not, unwrap_or}
use Rattle.std.specs.Global.{Vec}
use Rattle.std.proofs.Math.Seq.{drop-append_seam, take-append_seam}
use Rattle.std.proofs.lemmas.List.{length-take-le, take_rest, take_more, map-append}
use Rattle.std.proofs.lemmas.Result.{err_from_is_err_and}
use Rattle.std.proofs.lemmas.Bool.{cases_Bool}
use Rattle.properties_format.specs.Text.{scalar, equals_sign, is_empty}
use Rattle.properties_format.specs.Printing.{in_key_or_value, printed_key, printed_characters, encoded_text}
use Rattle.properties_format.proofs.Printing.Characters.{encoded-ascii, encoded_text-append}
use Rattle.properties_format.specs.Encoding.{Encoding, InForce, byte_order_mark, begins_with, begins_like_bom, utf_8_bom, utf_16be_bom, utf_16le_bom, windows_1252, utf_8, utf_16le, utf_16be, Repertoire, in_encoding, all_of}
use Rattle.properties_format.specs.Body.{held_in}
use Rattle.properties_format.specs.Edited.{bom_of, pair_bytes, is_editable, edited, IsKeySet, IsKeyRemoved, IsSetKeyResult, IsRemoveKeyResult}
use Rattle.properties_format.specs.Computed.Body.{held_groups_of}
use Rattle.properties_editing.specs.Private.Sound.{AreSoundFor, IsResult, Returns, IsErrorOfGroups}
use Rattle.properties_editing.specs.declared.source.Comments.{Comments}
use Rattle.properties_editing.specs.declared.source.Comments.TheVariants.{Read}
use Rattle.properties_editing.proofs.PassedOver.{from-after, from-fault, from-sound, result_for, result_from, result-groups, result_for-meets}
use Rattle.properties_format.proofs.Edited.ByteOrderMarks.{source-whole}
use Rattle.properties_format.proofs.Edits.Results.{edit_result}
use Rattle.properties_format.proofs.Changed.Read.{edit-reads}
use Rattle.properties_format.proofs.Edits.InAscii.{edit-in_ascii}
use Rattle.properties_format.specs.Edits.{put, remove, set_value, AreScalarEdits}
use Rattle.properties_items.proofs.Scalars.{string-scalars}
use Rattle.properties_editing.specs.declared.edit.Edit as edit
use Rattle.properties_editing.specs.declared.edit.Edit.TheVariants as variant
use Rattle.properties_editing.specs.Editing.{edit_in, edits_in, IsRefusal, IsSet, IsRemoved, MakesSet, RemovesKey, HasValueSet, MakesValueSet}
use Rattle.properties_format.proofs.Changed.Occur.{key_set-keeps, key_removed-keeps}
use Rattle.properties_format.proofs.Edited.Pair.{editable-own}
use Rattle.properties_text.specs.Encoding.{encoding_of}
use Rattle.properties_editing.specs.Private.Sources.{IsBodyStartOf, printed_repertoire, used_in}
use Rattle.properties_editing.specs.declared.source.BodyStart.{BodyStart}
use Rattle.properties_items.specs.declared.error.PropertiesError.{PropertiesError}
use Rattle.properties_lines.specs.LineSearch.{unit_size}
use Rattle.properties_format.specs.Valued.{IsSetValueResult, IsValueSet}
use Rattle.properties_format.proofs.Valued.Read.{value_set-keeps, value_set-keeps_front}

-- ---- a source that is open

-- its byte order mark comes before its body
pub bom-front : {source : List ℕ} {r : Repertoire} {opened : BodyStart} → IsBodyStartOf source r opened → bom_of source ≡ take opened.start source
bom-front {source} {r} {opened} h =
    let body = drop opened.start source in
    let whole : source ≡ bom_of source ++ body = source-whole r.encoding source ∙ ap (λ v. let w : InForce = v in bom_of source ++ w.body) h.in_force in
    let sizes : length source ≡ length (bom_of source) + length body = ap length whole ∙ length-append (bom_of source) body in
    let left : length body ≡ length source - opened.start = length-drop opened.start source in
    let n : opened.start ≡ length (bom_of source) = omega arith in
    sym (ap₂ take n whole ∙ take-append_seam (bom_of source) body)

-- a source that is edited is in an encoding that is edited
pub editable : {source : List ℕ} {r : Repertoire} {opened : BodyStart} → IsBodyStartOf source r opened → is_editable (byte_order_mark r.encoding source).encoding ≡ true
editable h = ap (λ v. let w : InForce = v in is_editable w.encoding) h.in_force ∙ h.editable

-- An encoding whose units are one byte long is edited,
pub editable-bytes : (e : Encoding) → unit_size e ≡ 1 → is_editable e ≡ true
editable-bytes windows_1252 h = refl
editable-bytes utf_8 h = refl
editable-bytes utf_16le h = absurd (omega arith)
editable-bytes utf_16be h = absurd (omega arith)

-- and the units of one that is edited are one byte long.
pub editable-unit : (e : Encoding) → is_editable e ≡ true → unit_size e ≡ 1
editable-unit windows_1252 h = refl
editable-unit utf_8 h = refl
editable-unit utf_16le h = absurd (cc)
editable-unit utf_16be h = absurd (cc)

-- what may stand unescaped in it, and in what is printed for it, is what was requested
pub used-own : {source : List ℕ} {r : Repertoire} {opened : BodyStart} → IsBodyStartOf source r opened → used_in opened ≡ in_encoding r (encoding_of opened.encoding)
used-own {opened = opened} h = ap (λ s. let t : Repertoire = record { encoding = encoding_of opened.encoding; characters = s } in t) h.characters

pub printed-own : {source : List ℕ} {r : Repertoire} {opened : BodyStart} → IsBodyStartOf source r opened
    → printed_repertoire opened ≡ in_encoding r (encoding_of opened.encoding)
printed-own {opened = opened} h =
    ap₂ (λ e s. let t : Repertoire = record { encoding = e; characters = s } in t) (editable-own (encoding_of opened.encoding) h.editable) h.characters

-- Bytes that keep the byte order mark are in force as the source is.
pub again : {r : Repertoire} {old : List ℕ} {opened : BodyStart} (new body : List ℕ) → IsBodyStartOf old r opened → new ≡ bom_of old ++ body
    → byte_order_mark r.encoding new ≡ record { encoding = (byte_order_mark r.encoding old).encoding; body = body } → IsBodyStartOf new r opened
again {r} {old} {opened} new body h whole is =
    let front : new ≡ take opened.start old ++ body = whole ∙ ap (λ v. v ++ body) (bom-front h) in
    let size : length (take opened.start old) ≡ opened.start = length-take-le opened.start old h.within in
    let back : drop opened.start new ≡ body = ap₂ drop (sym size) front ∙ drop-append_seam (take opened.start old) body in
    let all = ap length front ∙ length-append (take opened.start old) body in
    record {
      in_force =
          is ∙ ap₂ (λ f b. let w : InForce = record { encoding = f; body = b } in w) (ap (λ v. let w : InForce = v in w.encoding) h.in_force) (sym back);
      within = omega arith;
      characters = h.characters;
      editable = h.editable;
    }

-- what the result of a source is, is what its groups say
groups-of : (comments : Comments) {source : List ℕ} {r : Repertoire} {opened : BodyStart} (made : List ℕ) → IsBodyStartOf source r opened
    → result_for comments r.encoding source made ≡ result_from comments 1 (held_groups_of (encoding_of opened.encoding) (drop opened.start source)) made
groups-of comments {source} {r} {opened} made h =
    result-groups comments r.encoding source made (editable h)
    ∙ ap (λ v. let w : InForce = v in result_from comments 1 (held_groups_of w.encoding w.body) made) h.in_force

-- Bytes that an edit makes are its result if the groups are sound.
pub made-result : (comments : Comments) {source : List ℕ} {r : Repertoire} {opened : BodyStart} (Makes : List ℕ → Type 0) (made : List ℕ) → IsBodyStartOf source r opened
    → AreSoundFor comments (held_groups_of (encoding_of opened.encoding) (drop opened.start source)) → Makes made
    → IsResult comments r.encoding source Makes (edited made)
made-result comments {source} {r} {opened} Makes made h sound makes =
    let gs = held_groups_of (encoding_of opened.encoding) (drop opened.start source) in
    subst (IsResult comments r.encoding source Makes) (groups-of comments made h ∙ from-sound comments gs made sound) (result_for-meets comments r.encoding source made Makes makes)

-- ---- refusals

not-unsupported : {r : Repertoire} {source : List ℕ} {opened : BodyStart} → IsBodyStartOf source r opened
    → is_editable (byte_order_mark r.encoding source).encoding ≡ false → ⊥
not-unsupported h none = let yes = editable h in absurd (cc)

-- The first fault of the groups is the refusal of their source, and what a `?` returns.
pub refusal : {A : Type 0} (comments : Comments) {source : List ℕ} {r : Repertoire} {opened : BodyStart} {error : PropertiesError}
    {result : Result A PropertiesError} (Makes : List ℕ → Type 0) {made : List ℕ}
    → IsBodyStartOf source r opened → Makes made
    → IsErrorOfGroups comments (held_groups_of (encoding_of opened.encoding) (take (length source - opened.start) (drop opened.start source))) error
    → IsErrAnd result (λ x. x ≡ error) → (x : PropertiesError) × (result ≡ Err x) × IsRefusal (IsResult comments r.encoding source Makes) x
refusal comments {source} {r} {opened} {result = result} Makes {made} h makes fault returned =
    let back = err_from_is_err_and result returned in
    (back.0, back.1, subst (IsRefusal (IsResult comments r.encoding source Makes)) (sym back.2) (by (rw (take_rest source opened.start) at fault)))
  where
    by : {error : PropertiesError} → IsErrorOfGroups comments (held_groups_of (encoding_of opened.encoding) (drop opened.start source)) error
        → IsRefusal (IsResult comments r.encoding source Makes) error
    by (inl (before, g, after, division, sound, (passed, inl (how, broke, is)))) =
        let n = 1 + length (held_in before) in
        let first =
        ap (λ v. result_from comments 1 v made) division ∙ from-after comments 1 before (g ∷ after) made sound ∙ from-fault comments n g after made how broke passed in
        inr (inl (how, n, subst (IsResult comments r.encoding source Makes) (groups-of comments made h ∙ first) (result_for-meets comments r.encoding source made Makes makes), is))
    by (inl (before, g, after, division, sound, (passed, inr is))) = inr (inr ((λ none. not-unsupported h none), is))
    by (inr is) = inr (inr ((λ none. not-unsupported h none), is))

-- ---- a key is set

-- What the result is, how it reads, and what it keeps.
pub set-edits : {r : Repertoire} {source key value bytes : List ℕ} → All scalar key → All scalar value → IsSetKeyResult r source key value (edited bytes)
    → IsSet r source key value bytes
set-edits {r} {source} {key} {value} {bytes} k v meets = record {
  edit = record {
    result = meets;
    only = λ other h. let one = edit_result r source (put key value) in one.only other h ∙ sym (one.only (edited bytes) meets);
    reads = edit-reads r source (put key value) bytes (k, v) meets;
  };
  keeps = key_set-keeps r source key value bytes meets.2;
  ascii = λ on. edit-in_ascii r.encoding source (put key value) bytes (subst (λ b. IsSetKeyResult (record { encoding = r.encoding; characters = b }) source key value (edited bytes)) on meets);
}

pub returns-set : (r : Repertoire) (source key value : List ℕ) → All scalar key → All scalar value → (result : Result (Vec ℕ) PropertiesError)
    → Returns Read r.encoding source (IsKeySet r source key value) result → MakesSet r source key value result
returns-set r source key value k v (Ok bytes) h = set-edits k v h
returns-set r source key value k v (Err error) h = h

-- ---- the printed pair

-- its parts are appended
pub pair-appended : (r : Repertoire) (first : Bool) (key value start all : List ℕ)
    → all ≡ start ++ (encoded_text r.encoding (printed_key r first key) ++ (equals_sign ∷ encoded_text r.encoding (printed_characters r in_key_or_value value) ++ []))
    → all ≡ start ++ pair_bytes r first key value
pair-appended r first key value start all h =
    let front = printed_key r first key in
    let back = printed_characters r in_key_or_value value in
    h
    ∙ ap (λ v. start ++ (encoded_text r.encoding front ++ (equals_sign ∷ v))) (append-nil (encoded_text r.encoding back))
    ∙ ap (λ v. start ++ v) (sym (encoded_text-append r.encoding front (equals_sign ∷ back)
    ∙ ap (λ o. encoded_text r.encoding front ++ (unwrap_or o [] ++ encoded_text r.encoding back)) (encoded-ascii r.encoding equals_sign (lit< tt))))

-- ---- whether it is the first

pub not_first : (x y : List ℕ) → false ≡ is_empty y → false ≡ is_empty (x ++ y)
not_first [] y h = h
not_first (c ∷ x) y h = refl

-- ---- a byte order mark at the front

no_bom-begins : (b : List ℕ) → (length (bom_of b) == 0) ≡ not (begins_like_bom b)
no_bom-begins b = elim (cases_Bool (begins_with utf_8_bom b)) [
  | inl k ↦ rw k refl
  | inr k ↦ elim (cases_Bool (begins_with utf_16be_bom b)) [
    | inl l ↦ rw (k, l) refl
    | inr l ↦ elim (cases_Bool (begins_with utf_16le_bom b)) [ inl m ↦ rw (k, l, m) refl | inr m ↦ rw (k, l, m) refl ]
  ]
]

-- a source starts with its body where it begins with no byte order mark
pub unmarked : {source : List ℕ} {r : Repertoire} {opened : BodyStart} → IsBodyStartOf source r opened → (opened.start == 0) ≡ not (begins_like_bom source)
unmarked {source} {r} {opened} h =
    let size : length (bom_of source) ≡ opened.start = ap length (bom-front h) ∙ length-take-le opened.start source h.within in
    ap (λ n. n == 0) (sym size) ∙ no_bom-begins source

-- ---- a key is removed

pub removed-edits : {e : Encoding} {source key bytes : List ℕ} → IsRemoveKeyResult e source key (edited bytes) → IsRemoved e source key bytes
removed-edits {e} {source} {key} {bytes} meets = record {
  edit = record {
    result = meets;
    only = λ other h. let one = edit_result (all_of e) source (remove key) in one.only other h ∙ sym (one.only (edited bytes) meets);
    reads = edit-reads (all_of e) source (remove key) bytes tt meets;
  };
  keeps = key_removed-keeps e source key bytes meets.2;
}

pub returns-removed : (e : Encoding) (source key : List ℕ) (result : Result (Vec ℕ) PropertiesError) → Returns Read e source (IsKeyRemoved e source key) result
    → RemovesKey e source key result
returns-removed e source key (Ok bytes) h = removed-edits h
returns-removed e source key (Err error) h = h

-- ---- edits in turn

-- the texts of edits are of scalar values
pub edits-scalars : (edits : List edit.Edit) → AreScalarEdits (edits_in edits)
edits-scalars [] = tt
edits-scalars (variant.Put key value ∷ edits) = ((string-scalars key, string-scalars value), edits-scalars edits)
edits-scalars (variant.Remove key ∷ edits) = (tt, edits-scalars edits)
edits-scalars (variant.SetValue key value ∷ edits) = ((string-scalars key, string-scalars value), edits-scalars edits)

pub edits_in-more : (edits : List edit.Edit) (i : ℕ) (d : edit.Edit) → i < length edits
    → edits_in (take (i + 1) edits) ≡ edits_in (take i edits) ++ edit_in (get_or edits i d) ∷ []
edits_in-more edits i d h = ap edits_in (take_more edits i d h) ∙ map-append edit_in (take i edits) (get_or edits i d ∷ [])

-- ---- a value is set

-- What the result is, how it reads, and what it keeps.
pub value-edits : {r : Repertoire} {source key value bytes : List ℕ} → All scalar key → All scalar value → IsSetValueResult r source key value (edited bytes)
    → HasValueSet r source key value bytes
value-edits {r} {source} {key} {value} {bytes} k v meets = record {
  edit = record {
    result = meets;
    only = λ other h. let one = edit_result r source (set_value key value) in one.only other h ∙ sym (one.only (edited bytes) meets);
    reads = edit-reads r source (set_value key value) bytes (k, v) meets;
  };
  keeps = value_set-keeps r source key value bytes meets.2;
  keeps_front = value_set-keeps_front r source key value bytes meets.0 meets.2;
  ascii = λ on. edit-in_ascii r.encoding source (set_value key value) bytes (subst (λ b. IsSetValueResult (record { encoding = r.encoding; characters = b }) source key value (edited bytes)) on meets);
}

pub returns-value : (r : Repertoire) (source key value : List ℕ) → All scalar key → All scalar value → (result : Result (Vec ℕ) PropertiesError)
    → Returns Read r.encoding source (IsValueSet r source key value) result → MakesValueSet r source key value result
returns-value r source key value k v (Ok bytes) h = value-edits k v h
returns-value r source key value k v (Err error) h = h
