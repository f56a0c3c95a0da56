-- What separates key and value in the last pair of a body, and its last line ending.
use Rattle.std.proofs.Common.{inl, inr, ◌≡◌, ◌<◌, ◌≤◌, ℕ, ◌+◌, ◌-◌, true, false, List, [], ◌∷◌, ◌++◌, length, take, drop, get_or, refl, ap, ap₂, sym, ◌∙◌, subst, arith, append_assoc, length-append}
use Rattle.std.specs.Prelude.{Option, Some, None, unwrap_or}
use Rattle.std.specs.Option.{option_map, is_some}
use Rattle.std.proofs.lemmas.List.{drop_more, take-append-drop}
use borrow.Author.Tests.{eqb-true}
use Rattle.properties_format.specs.Text as text
use Rattle.properties_format.specs.Text.{carriage_return, line_ending_text, equals_sign}
use Rattle.properties_format.specs.Lines.{HoldsNoLineEnding, Ended, Lines}
use Rattle.properties_format.specs.Computed.Lines.{ends_in_cr, lines_of}
use Rattle.properties_format.specs.Body.{held_in, ending_bytes, last_ending, AreGroupsOf, HeldLine, groups_bytes}
use Rattle.properties_format.specs.Valued.{ending_among, separator_after}
use Rattle.properties_format.proofs.Lines.Plain.{last-plain, plain-no_lf}
use Rattle.properties_format.proofs.Lines.Steps.{lines_of-line}
use Rattle.properties_format.proofs.Lines.Only.{lines_of-only, lines_of-plain}
use Rattle.properties_format.proofs.Lines.Cut.{PartsNoEnd, lines_of-append}
use Rattle.properties_format.proofs.Body.Decoded.{IsCut-lines}
use Rattle.properties_format.proofs.Body.Groups.{held_of-only, held-body, held_groups_of-meets, groups_bytes-append}
use Rattle.properties_format.proofs.Valued.Lined.{last_by, last_by-append}
use Rattle.properties_format.proofs.Valued.Added.{ending-held}
use Rattle.properties_items.specs.Line.{ending_of}
use Rattle.properties_editing.specs.Private.BodyValues.{IsLastEnding}
use Rattle.properties_items.specs.declared.line.LineEnding.{LineEnding}
use Rattle.properties_items.specs.declared.line.LineEnding.TheVariants.{LF}
use Rattle.std.proofs.Math.Seq.{take-append_seam, drop-append_seam}
use Rattle.properties_format.specs.Settings.{IsGoodSeparator}
use Rattle.properties_format.specs.Edited.{is_editable}
use Rattle.properties_format.specs.Computed.Settings.{is_good_separator}
use Rattle.properties_format.specs.Computed.Valued.{separator_by, between_if_pair, between_in, last_between}
use Rattle.properties_format.proofs.Settings.Tests.{is_good_separator-from}
use Rattle.properties_format.proofs.GroupsInTurn.Lines.{bytes-unended}
use Rattle.properties_format.proofs.Valued.Made.{new_separator-meets}
use Rattle.properties_format.proofs.Valued.Separators.{new_separator-fit}
use Rattle.properties_editing.proofs.BodyValues.{middle-of}
use Rattle.properties_format.specs.Encoding.{Encoding}
use Rattle.properties_format.specs.Computed.Split.{split_of}
use Rattle.properties_format.specs.Computed.Body.{held_groups_of, unended_bytes}
use Rattle.properties_format.specs.Split.{Logical, IsSplit}
use Rattle.properties_format.proofs.Split.Unique.{split_of-meets}
use Rattle.properties_format.proofs.Valued.Parts.{comment_line-no_pair}
use Rattle.properties_editing.specs.Private.Sound.{IsSoundFor}
use Rattle.properties_editing.specs.declared.source.Comments.TheVariants.{PassedOver}
use Rattle.properties_format.specs.Escapes.{Meaning, means, breaks}
use Rattle.properties_format.specs.Computed.Escapes.{meaning_of}
use Rattle.properties_format.specs.Computed.Items.{comment_outcome, pair_outcome, split_outcome}
use Rattle.properties_format.specs.Computed.Edited.{IsSoundOutcome}
use Rattle.properties_items.specs.BorrowedItems.{outcome_pair}

-- ---- what separates key and value, if a line is a pair

pub between-none : (l : Logical) (x : List ℕ) → IsSoundOutcome (split_outcome l) → is_some (outcome_pair (split_outcome l)) ≡ false → between_if_pair l x ≡ None
between-none Logical.blank x sound none = refl
between-none (Logical.comment raw) x sound none = refl
between-none (Logical.pair raw_key raw_value) x sound none = of-pair (meaning_of raw_key) (meaning_of raw_value) sound none
  where
    of-pair : (k v : Meaning) → IsSoundOutcome (pair_outcome k v) → is_some (outcome_pair (pair_outcome k v)) ≡ false
        → between_if_pair (Logical.pair raw_key raw_value) x ≡ None
    of-pair (breaks kind) v s n = absurd s
    of-pair (means key) (breaks kind) s n = absurd s
    of-pair (means key) (means value) s n = absurd (cc)

pub between-some : (l : Logical) (x : List ℕ) → is_some (outcome_pair (split_outcome l)) ≡ true → (between : List ℕ) × (between_if_pair l x ≡ Some between)
between-some Logical.blank x some = absurd (cc)
between-some (Logical.comment raw) x some = of-comment (meaning_of raw) some
  where
    of-comment : (m : Meaning) → is_some (outcome_pair (comment_outcome m)) ≡ true
        → (between : List ℕ) × (between_if_pair (Logical.comment raw) x ≡ Some between)
    of-comment (means text) n = absurd (cc)
    of-comment (breaks kind) n = absurd (cc)
between-some (Logical.pair raw_key raw_value) x some = (between_in x, refl)

-- a line that is no pair
pub between-unpaired : (x : List ℕ) → IsSoundFor PassedOver x → is_some (outcome_pair (split_outcome (split_of x))) ≡ false → between_if_pair (split_of x) x ≡ None
between-unpaired x (inl s) n = between-none (split_of x) x s n
between-unpaired x (inr c) n = of-split (split_of x) (split_of-meets x)
  where
    of-split : (l : Logical) → IsSplit x l → between_if_pair l x ≡ None
    of-split Logical.blank h = refl
    of-split (Logical.comment raw) h = refl
    of-split (Logical.pair key value) h = absurd (comment_line-no_pair x key value c h)

-- ---- the last line ending

-- bytes that end in a CR
pub cr-last : (front : List ℕ) → ends_in_cr front ≡ true → (before : List ℕ) × (front ≡ before ++ carriage_return ∷ [])
cr-last [] h = absurd (cc)
cr-last (c ∷ []) h = ([], ap (λ v. v ∷ []) (eqb-true c carriage_return h))
cr-last (c ∷ d ∷ front) h = let m = cr-last (d ∷ front) h in (c ∷ m.0, ap (λ v. c ∷ v) m.1)

-- a body up to a byte, that byte, and the rest
pub at-byte : (body : List ℕ) (at b : ℕ) → 0 < at → at ≤ length body → get_or body (at - 1) 0 ≡ b → body ≡ take (at - 1) body ++ b ∷ drop at body
at-byte body at b some within is =
    let n : at - 1 + 1 ≡ at = omega arith in
    sym (take-append-drop (at - 1) body)
    ∙ ap (λ v. take (at - 1) body ++ v) (drop_more body (at - 1) 0 (omega arith) ∙ ap₂ (λ c k. c ∷ drop k body) is n)

-- ---- in the lines of the bytes

-- The last line ending of groups is that of the lines of their body.
ending-lines : (e : Encoding) (body : List ℕ) (gs : List (List HeldLine)) (by : text.LineEnding) → is_editable e ≡ true → AreGroupsOf e body gs
    → ending_among by (held_in gs) ≡ unwrap_or (last_by (lines_of body).ended) by
ending-lines e body gs by ok h =
    ap (ending_among by) (held_of-only e h.cut.ended h.cut.last (held_in gs) h.are_held)
    ∙ ending-held e by h.cut.ended h.cut.last
    ∙ ap (λ v. let w : Lines = v in unwrap_or (last_by w.ended) by) (lines_of-only body h.cut (IsCut-lines e body h.cut ok h.is_cut))

-- so a body has the last line ending that its lines have, or an LF
last-lines : (body : List ℕ) (by : LineEnding) → unwrap_or (last_by (lines_of body).ended) text.lf ≡ ending_of by → IsLastEnding body by
last-lines body by s e gs ok are = sym (ending-lines e body gs text.lf ok are ∙ s)

-- a cut before a line ending separates no CR from an LF
parts-none : (front : List ℕ) (by : text.LineEnding) (rest : List ℕ) → (by ≡ text.lf → ends_in_cr front ≡ false) → PartsNoEnd front (line_ending_text by ++ rest)
parts-none front text.lf rest h q = let m = h refl in absurd (cc)
parts-none front text.cr rest h q = refl
parts-none front text.crlf rest h q = refl

-- A line ending that no other follows is the last one.
pub last-by : (body front : List ℕ) (by : LineEnding) (rest : List ℕ) → body ≡ front ++ (line_ending_text (ending_of by) ++ rest) → HoldsNoLineEnding rest
    → (ending_of by ≡ text.lf → ends_in_cr front ≡ false) → IsLastEnding body by
last-by body front by rest s plain alone =
    let end = ending_of by in
    let l : Ended = record { text = (lines_of front).last; by = end } in
    let lines : (lines_of body).ended ≡ (lines_of front).ended ++ l ∷ [] =
    ap (λ v. (lines_of v).ended) s
    ∙ ap (λ v. let w : Lines = v in w.ended) (lines_of-append front (line_ending_text end ++ rest) (parts-none front end rest alone))
    ∙ ap (λ v. let w : Lines = v in (lines_of front).ended ++ w.ended) (lines_of-line (lines_of front).last end rest (last-plain front) (λ q. plain-no_lf rest plain))
    ∙ ap (λ v. let w : Lines = v in (lines_of front).ended ++ l ∷ w.ended) (lines_of-plain rest plain) in
    last-lines body by (ap (λ v. unwrap_or v text.lf) (ap last_by lines ∙ last_by-append (lines_of front).ended (l ∷ []) (λ q. absurd (cc))))

-- No line ending at all.
pub last-none : (body : List ℕ) (at : ℕ) → at ≡ 0 → HoldsNoLineEnding (drop at body) → IsLastEnding body LF
last-none body at none plain =
    last-lines body LF (ap (λ v. let w : Lines = v in unwrap_or (last_by w.ended) text.lf) (lines_of-plain body (subst (λ n. HoldsNoLineEnding (drop n body)) none plain)))

-- ---- the bytes of a pair

-- a group of a body is in this span of it
pub record IsPartAt (body : List ℕ) (before : List (List HeldLine)) (g : List HeldLine) (after : List (List HeldLine)) (start end : ℕ) : Type 0 where
  pub ordered : start ≤ end
  pub within : end ≤ length body
  pub front : take start body ≡ groups_bytes before
  pub part : take (end - start) (drop start body) ≡ unended_bytes g
  pub back : drop end body ≡ ending_bytes (last_ending g) ++ groups_bytes after

pub part-at : (e : Encoding) (body : List ℕ) (before : List (List HeldLine)) (g : List HeldLine) (after : List (List HeldLine)) (start end : ℕ) → is_editable e ≡ true
    → held_groups_of e body ≡ before ++ g ∷ after → start ≡ length (groups_bytes before) → end ≡ start + length (unended_bytes g)
    → IsPartAt body before g after start end
part-at e body before g after start end ok division starts ends =
    let a = groups_bytes before in
    let b = unended_bytes g in
    let c = ending_bytes (last_ending g) ++ groups_bytes after in
    let whole : body ≡ a ++ (b ++ c) =
    sym (held-body e body (held_groups_of e body) ok (held_groups_of-meets e body))
    ∙ ap groups_bytes division
    ∙ groups_bytes-append before (g ∷ after)
    ∙ ap (λ v. a ++ (v ++ groups_bytes after)) (bytes-unended g)
    ∙ ap (λ v. a ++ v) (append_assoc b (ending_bytes (last_ending g)) (groups_bytes after)) in
    let size : length body ≡ length a + (length b + length c) = ap length whole ∙ length-append a (b ++ c) ∙ ap (λ n. length a + n) (length-append b c) in
    let both : end ≡ length (a ++ b) = let l = length-append a b in omega arith in
    record {
      ordered = omega arith;
      within = omega arith;
      front = ap₂ take starts whole ∙ take-append_seam a (b ++ c);
      part = ap (λ v. take (end - start) (drop start v)) whole ∙ middle-of a b c start end starts ends;
      back = ap₂ drop both (whole ∙ sym (append_assoc a b c)) ∙ drop-append_seam (a ++ b) c;
    }

-- ---- the separator of the last pair

-- The separator of a new pair, where there is one to take,
pub separator-found : (key separator : List ℕ) (last : Option (List ℕ)) → Some separator ≡ option_map (separator_after key) last → separator ≡ separator_by key last
separator-found key separator None h = absurd (cc)
separator-found key separator (Some between) h = cc

-- and where there is none.
pub separator-none : (key : List ℕ) (last : Option (List ℕ)) → None ≡ option_map (separator_after key) last → equals_sign ∷ [] ≡ separator_by key last
separator-none key None h = refl
separator-none key (Some between) h = absurd (cc)

-- The separator of a new pair is a good one.
pub separator-good : (e : Encoding) (body key separator : List ℕ) → separator ≡ separator_by key (last_between (held_groups_of e body))
    → is_good_separator separator ≡ true
separator-good e body key separator h =
    let gs = held_groups_of e body in
    is_good_separator-from separator
    (subst IsGoodSeparator (sym h) (new_separator-fit gs key (separator_by key (last_between gs)) (new_separator-meets gs key)).good)
