-- A value that is set among groups that stand for a body.
use Rattle.std.proofs.Common.{◌≡◌, ◌≢◌, ℕ, Bool, true, List, [], ◌∷◌, ◌++◌, All, Option, Some, None, refl, ap, sym, ◌∙◌, inl, inr, append_assoc, append-nil}
use Rattle.std.proofs.lemmas.Bool.{cases_Bool}
use Rattle.properties_format.specs.Text.{scalar, LineEnding, lf, cr, crlf, line_ending_text, line_feed, carriage_return, is_empty}
use Rattle.properties_format.specs.Encoding.{Encoding, Repertoire}
use Rattle.properties_format.specs.Printing.{encoded_text, printed_key}
use Rattle.properties_format.specs.Body.{HeldLine, held_in, groups_bytes}
use Rattle.properties_format.specs.Edited.{is_editable, is_empty_line, final_group, separation_by}
use Rattle.properties_format.specs.Valued.{ending_among}
use Rattle.properties_format.specs.Plan.{Change, become, at_last, value_change, value_added, value_in}
use Rattle.properties_format.specs.Computed.Lines.{ends_in_cr}
use Rattle.properties_format.specs.Computed.Cut.{decoded_line}
use Rattle.properties_format.specs.Computed.Body.{held_groups_of, held_lines_of, unended_bytes}
use Rattle.properties_format.specs.Computed.Valued.{last_between, separator_by, has_value}
use Rattle.properties_format.proofs.Lines.Plain.{plain-no_cr, ends_in_cr-append}
use Rattle.properties_format.proofs.Printing.Characters.{encoded_text-append}
use Rattle.properties_format.proofs.GroupsInTurn.Lines.{AreLinesBy, unended-some}
use Rattle.properties_format.proofs.GroupsInTurn.Merged.{AreInTurn}
use Rattle.properties_format.proofs.Valued.Fronts.{front_of-only}
use Rattle.properties_format.proofs.Valued.Made.{new_separator-meets, one-value}
use Rattle.properties_format.proofs.Valued.Separators.{IsFitSeparator, IsAddedPair, added_bytes, added_line, added-pair, added-text, new_separator-fit}
use Rattle.properties_format.proofs.Plan.Slots.{IsGroupText, SayPair, AreSlotsOf, group_of, groups_after, own-slots, slots-final, slots-none, slots-last, Becomes}
use Rattle.properties_format.proofs.Plan.Added.{IsSafeAfter, plain-held, groups_added, plain-fit, slots-added}
use Rattle.properties_format.proofs.Plan.Values.{value-fit, value-with}

-- ---- the last line ending fits behind the last group

ends-by : (x : List ℕ) (by : LineEnding) → ends_in_cr (x ++ (line_ending_text by ++ [])) ≡ true → by ≡ cr
ends-by x cr c = refl
ends-by x lf c = let q = sym (ends_in_cr-append x line_feed []) ∙ c in absurd (cc)
ends-by x crlf c = let q = sym (ends_in_cr-append x carriage_return (line_feed ∷ [])) ∙ c in absurd (cc)

-- If the last group ends in a CR before it has ended, that is the last line ending.
lines-cr : (e : Encoding) (a : LineEnding) (hs : List HeldLine) → AreLinesBy e None hs → ends_in_cr (unended_bytes hs) ≡ true → ending_among a hs ≡ cr
lines-cr e a [] b c = absurd b
lines-cr e a (h ∷ []) b c = let q = plain-no_cr h.bytes b.0 in absurd (cc)
lines-cr e a (h ∷ i ∷ hs) (p, s, (by, t, k), b) c = rw t (of-rest (unended_bytes (i ∷ hs)) refl (rw t at c) (lines-cr e by (i ∷ hs) b))
  where
    alone : (hs : List HeldLine) → AreLinesBy e None (i ∷ hs) → is_empty_line (i ∷ hs) ≡ true → by ≡ cr → ending_among by (i ∷ hs) ≡ cr
    alone [] b q s = rw b.2 s
    alone (j ∷ hs) b q s = absurd (cc)

    of-rest : (y : List ℕ) → unended_bytes (i ∷ hs) ≡ y → ends_in_cr (h.bytes ++ (line_ending_text by ++ y)) ≡ true
        → (ends_in_cr (unended_bytes (i ∷ hs)) ≡ true → ending_among by (i ∷ hs) ≡ cr) → ending_among by (i ∷ hs) ≡ cr
    of-rest [] q c again = alone hs b (unended-some e None (i ∷ hs) b q) (ends-by h.bytes by c)
    of-rest (d ∷ y) q c again =
        again (ap ends_in_cr q ∙ sym (ends_in_cr-append (h.bytes ++ line_ending_text by) d y)
        ∙ ap ends_in_cr (append_assoc h.bytes (line_ending_text by) (d ∷ y)) ∙ c)

among-append : (a : LineEnding) (x y : List HeldLine) → ending_among a (x ++ y) ≡ ending_among (ending_among a x) y
among-append a [] y = refl
among-append a (h ∷ x) y = among-append _ x y

groups-cr : (e : Encoding) (a : LineEnding) (gs : List (List HeldLine)) → AreInTurn e gs → ends_in_cr (unended_bytes (final_group gs)) ≡ true
    → ending_among a (held_in gs) ≡ cr
groups-cr e a [] b c = absurd b
groups-cr e a (g ∷ []) b c = ap (ending_among a) (append-nil g) ∙ lines-cr e a g b.0 c
groups-cr e a (g ∷ h ∷ gs) b c = among-append a g (held_in (h ∷ gs)) ∙ groups-cr e (ending_among a g) (h ∷ gs) b.1 c

-- ---- the new pair is a group

module _ (r : Repertoire) (first : Bool) (key sep value : List ℕ) (ok : is_editable r.encoding ≡ true) (k : All scalar key) (v : All scalar value)
    (f : IsFitSeparator key sep) where
  abbrev x : List ℕ
  x = added_bytes r first key sep value

  made : (by : LineEnding) → IsAddedPair r first key sep value by
  made by = added-pair r first key sep value by ok k v f

  held : held_lines_of r.encoding x ≡ record { bytes = x; text = decoded_line r.encoding x; ending = None } ∷ []
  held = plain-held r.encoding x ok (made lf).plain

  pub added-fit : IsGroupText r.encoding x
  added-fit = plain-fit r.encoding x ok (made lf).plain (made lf).whole

  pub added-some : x ≢ []
  added-some = (made lf).some

  pub added-said : SayPair r.encoding key value x
  added-said = rw held (made lf).has_pair

  -- With another value, it is the new pair with that value.
  pub added-again : (second : List ℕ) (any : Bool) (by : LineEnding)
      → Becomes x (added_bytes r first key sep second) (value_change r second any (group_of r.encoding x (Some by)))
  added-again second any by =
      let p = made by in
      let g = added_line r first key sep value by ∷ [] in
      let m = front_of-only r.encoding g p.between _ ok (refl, tt) p.is_front in
      elim (cases_Bool (has_value second g)) [
        | inl h ↦ rw (held, h) (inr (refl, ap (λ w. added_bytes r first key sep w) (sym (one-value key value second g p.has_pair h))))
        | inr h ↦
            let written = printed_key r first key in
            rw (held, h) (inl (ap become (rw (← m.0, ← m.1, added-text r p.between sep second p.between_some p.blanks)
            (sym (encoded_text-append r.encoding (written ++ sep) _) ∙ ap (encoded_text r.encoding) (append_assoc written sep _)))))
      ]

-- ---- the value is set

-- the groups after a value is set; the separator and the line ending of a new pair are those of the groups that the bytes have
abbrev pub groups_valued : Repertoire → List (List HeldLine) → List ℕ → List ℕ → List (List HeldLine) → Option (List Change) → List (List HeldLine)
groups_valued r all key value gs (Some cs) = groups_after r.encoding cs gs
groups_valued r all key value gs None =
    let by : LineEnding = ending_among lf (held_in all) in
    let front = groups_bytes all ++ separation_by (line_ending_text by) (final_group all) in
    groups_added r.encoding by (added_bytes r (is_empty front) key (separator_by key (last_between all)) value) by gs

module _ (r : Repertoire) (body key value : List ℕ) (gs : List (List HeldLine)) (ok : is_editable r.encoding ≡ true) (k : All scalar key) (v : All scalar value)
    (s : AreSlotsOf r.encoding body gs) where
  abbrev all : List (List HeldLine)
  all = held_groups_of r.encoding body

  safe : IsSafeAfter (ending_among lf (held_in all)) (final_group gs)
  safe c =
      rw (groups-cr r.encoding lf all (own-slots r.encoding body ok).turn
      (ap (λ g. ends_in_cr (unended_bytes g)) (slots-final r.encoding body gs ok s) ∙ c)) refl

  value-at : (p : Option (List Change)) → at_last key (value_change r value) true gs ≡ p
      → AreSlotsOf r.encoding (value_in r key value all) (groups_valued r all key value gs p)
  value-at (Some cs) q =
      slots-last r.encoding body key (value_change r value) gs ok (λ first p o g a h. value-with r key value first p o g ok a h) s
      (λ first p g a w h. value-fit r key value first p g ok v a w h) cs q (value_added r key value all)
  value-at None q =
      let by = ending_among lf (held_in all) in
      let sep = separator_by key (last_between all) in
      let first = is_empty (groups_bytes all ++ separation_by (line_ending_text by) (final_group all)) in
      let fit = added-fit r first key sep value ok k v (new_separator-fit all key sep (new_separator-meets all key)) in
      let plan = slots-none r.encoding body key (value_change r value) gs ok (λ first p o g a h. value-with r key value first p o g ok a h) s q in
      let whole = (own-slots r.encoding body ok).bytes in
      rw (plan, whole) (rw whole at (slots-added r.encoding body gs by (added_bytes r first key sep value) by ok s safe fit))

  -- A value that is set among groups that stand for a body is set in the body.
  pub slots-valued : AreSlotsOf r.encoding (value_in r key value all) (groups_valued r all key value gs (at_last key (value_change r value) true gs))
  slots-valued = value-at (at_last key (value_change r value) true gs) refl
