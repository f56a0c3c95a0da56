-- A pair that is added behind groups that stand for a body, and keys that are set and removed in turn.
use Rattle.std.proofs.Common.{◌≡◌, ℕ, Bool, true, false, List, [], ◌∷◌, ◌++◌, All, Option, Some, None, refl, ap, sym, ◌∙◌, inl, inr, append_assoc, append-nil, subst}
use Rattle.std.specs.Prelude.{if◌then◌else◌}
use Rattle.std.proofs.lemmas.Bool.{cases_Bool}
use Rattle.properties_format.specs.Text.{scalar, LineEnding, lf, cr, line_ending_text, is_empty}
use Rattle.properties_format.specs.Encoding.{Encoding, Repertoire}
use Rattle.properties_format.specs.Lines.{HoldsNoLineEnding, IsWhole, joined}
use Rattle.properties_format.specs.Body.{HeldLine, as_lines, ending_bytes, group_bytes, groups_bytes}
use Rattle.properties_format.specs.Edited.{is_editable, is_empty_line, is_left_open, final_group, separation_by, pair_bytes}
use Rattle.properties_format.specs.Plan.{Change, at_last, put_change, put_added, put_in}
use Rattle.properties_format.specs.Computed.Lines.{begins_with_lf, ends_in_cr}
use Rattle.properties_format.specs.Computed.Cut.{decoded_line}
use Rattle.properties_format.specs.Computed.Body.{held_groups_of, held_lines_of, unended_bytes}
use Rattle.properties_format.proofs.Items.Unique.{outcome_of-meets}
use Rattle.properties_format.proofs.Lines.Only.{lines_of-plain}
use Rattle.properties_format.proofs.Lines.Plain.{plain-no_cr}
use Rattle.properties_format.proofs.Body.Decoded.{decoded-nil, cut_of-lines}
use Rattle.properties_format.proofs.Body.Groups.{as_lines-append, group_bytes-append, groups_bytes-append}
use Rattle.properties_format.proofs.Edited.ByteOrderMarks.{empty-last}
use Rattle.properties_format.proofs.Edited.LogicalLines.{fit-closed, fit-open, closed-by_empty, ends-right}
use Rattle.properties_format.proofs.Edited.Pair.{pair_line, pair-decoded, pair-outcome, pair-plain, pair-whole}
use Rattle.properties_format.proofs.GroupsInTurn.Lines.{AreLinesBy, first-none, lines-some, bytes-unended, ending-of, with_ending, texts-with, bytes-with, lines-with}
use Rattle.properties_format.proofs.GroupsInTurn.Merged.{AreInTurn, IsEndedGroup, IsLastGroup}
use Rattle.properties_format.proofs.Plan.Slots.{IsGroupText, SayPair, AreSlotsOf, group_of, group-bytes, text-ended, no_line, turn-cons, last-empty, own-slots, slots-final, slots-none, slots-last, groups_after}

-- ---- a printed pair is a group

pub plain-held : (e : Encoding) (x : List ℕ) → is_editable e ≡ true → HoldsNoLineEnding x
    → held_lines_of e x ≡ record { bytes = x; text = decoded_line e x; ending = None } ∷ []
plain-held e x ok p = rw (cut_of-lines e x ok, lines_of-plain x p) refl

pub plain-fit : (e : Encoding) (x : List ℕ) → is_editable e ≡ true → HoldsNoLineEnding x → IsWhole (record { number = 0; text = decoded_line e x } ∷ [])
    → IsGroupText e x
plain-fit e x ok p w = record { whole = rw (plain-held e x ok p) w; no_cr = plain-no_cr x p }

pub pair-fit : (r : Repertoire) (first : Bool) (key value : List ℕ) → is_editable r.encoding ≡ true → All scalar key → All scalar value
    → IsGroupText r.encoding (pair_bytes r first key value)
pair-fit r first key value ok k v =
    plain-fit r.encoding (pair_bytes r first key value) ok (pair-plain r first key value ok k v)
    (subst (λ w. IsWhole (record { number = 0; text = w } ∷ [])) (sym (pair-decoded r first key value ok k v)) (pair-whole r first key value k v))

pub pair-said : (r : Repertoire) (first : Bool) (key value : List ℕ) → is_editable r.encoding ≡ true → All scalar key → All scalar value
    → SayPair r.encoding key value (pair_bytes r first key value)
pair-said r first key value ok k v =
    rw (plain-held r.encoding (pair_bytes r first key value) ok (pair-plain r first key value ok k v), pair-decoded r first key value ok k v)
    (rw (pair-outcome r first key value k v) at (outcome_of-meets (joined (pair_line r first key value ∷ []))))

-- ---- the last group is closed

-- an empty line that ends so
abbrev pub blank : Encoding → LineEnding → HeldLine
blank e by = record { bytes = []; text = decoded_line e []; ending = Some by }

-- the last group, closed by this line ending: nothing is left of an empty line, and a group that is left open takes an empty line
abbrev pub closed_last : Encoding → LineEnding → List HeldLine → List (List HeldLine)
closed_last e by g =
    if is_empty_line g then [] else (if is_left_open g then (with_ending (Some by) g ++ blank e by ∷ []) ∷ [] else with_ending (Some by) g ∷ [])

abbrev pub all_closed : Encoding → LineEnding → List (List HeldLine) → List (List HeldLine)
all_closed e by [] = []
all_closed e by (g ∷ []) = closed_last e by g
all_closed e by (g ∷ h ∷ gs) = g ∷ all_closed e by (h ∷ gs)

abbrev pub AreAllEnded : Encoding → List (List HeldLine) → Type 0
AreAllEnded e [] = Unit {0}
AreAllEnded e (g ∷ gs) = IsEndedGroup e g × AreAllEnded e gs

-- The line ending doesn't complete one that the last group ends in.
abbrev pub IsSafeAfter : LineEnding → List HeldLine → Type 0
IsSafeAfter by g = ends_in_cr (unended_bytes g) ≡ true → begins_with_lf (ending_bytes (Some by)) ≡ false

-- An empty line behind ended lines.
lines-push : (e : Encoding) (by : LineEnding) (g : List HeldLine) → AreLinesBy e (Some by) g → AreLinesBy e (Some by) (g ++ blank e by ∷ [])
lines-push e by [] a = absurd a
lines-push e by (h ∷ []) (p, s, t) = (p, s, (by, t, λ q. rw q refl), (tt, refl, refl))
lines-push e by (h ∷ i ∷ hs) (p, s, (own, t, n), a) = (
  p,
  s,
  (
    own,
    t,
    λ q. rw (group_bytes-append (i ∷ hs) (blank e by ∷ []))
        (first-none (group_bytes (i ∷ hs)) (group_bytes (blank e by ∷ [])) (n q) (λ r. absurd (lines-some e by (i ∷ hs) a r))),
  ),
  lines-push e by (i ∷ hs) a,
)

with-bytes : (e : Encoding) (by : LineEnding) (g : List HeldLine) → AreLinesBy e None g
    → group_bytes (with_ending (Some by) g) ≡ group_bytes g ++ line_ending_text by
with-bytes e by [] a = absurd a
with-bytes e by (h ∷ hs) a =
    bytes-with (Some by) h hs
    ∙ ap (λ v. v ++ line_ending_text by)
    (sym (bytes-unended (h ∷ hs) ∙ ap (λ o. unended_bytes (h ∷ hs) ++ ending_bytes o) (ending-of e None (h ∷ hs) a) ∙ append-nil (unended_bytes (h ∷ hs))))

module _ (e : Encoding) (by : LineEnding) where
  last-closed : (g : List HeldLine) → IsLastGroup e g → IsSafeAfter by g → AreAllEnded e (closed_last e by g)
  last-closed g (a, f) safe = elim (cases_Bool (is_empty_line g)) [
    | inl k ↦ rw k tt
    | inr k ↦ elim (cases_Bool (is_left_open g)) [
      | inl o ↦
          rw (k, o) (
            (
              by,
              lines-push e by (with_ending (Some by) g) (lines-with e None (Some by) g a safe),
              rw (as_lines-append (with_ending (Some by) g) (blank e by ∷ []), texts-with (Some by) g, decoded-nil e)
                  (closed-by_empty (as_lines g) (fit-open g f o)).0,
            ),
            tt,
          )
      | inr o ↦ rw (k, o) ((by, lines-with e None (Some by) g a safe, rw (texts-with (Some by) g) (fit-closed g f o)), tt)
    ]
  ]

  last-bytes : (g : List HeldLine) → IsLastGroup e g → groups_bytes (closed_last e by g) ≡ group_bytes g ++ separation_by (line_ending_text by) g
  last-bytes g (a, f) = elim (cases_Bool (is_empty_line g)) [
    | inl k ↦ rw (k, empty-last g k (ending-of e None g a)) refl
    | inr k ↦ elim (cases_Bool (is_left_open g)) [
      | inl o ↦ rw (k, o, append-nil, group_bytes-append (with_ending (Some by) g) (blank e by ∷ []), with-bytes e by g a, append-nil)
          (append_assoc (group_bytes g) _ _)
      | inr o ↦ rw (k, o, append-nil) (with-bytes e by g a)
    ]
  ]

  pub closed-ended : (gs : List (List HeldLine)) → AreInTurn e gs → IsSafeAfter by (final_group gs) → AreAllEnded e (all_closed e by gs)
  closed-ended [] a safe = absurd a
  closed-ended (g ∷ []) a safe = last-closed g a safe
  closed-ended (g ∷ h ∷ gs) a safe = (a.0, closed-ended (h ∷ gs) a.1 safe)

  pub closed-bytes : (gs : List (List HeldLine)) → AreInTurn e gs
      → groups_bytes (all_closed e by gs) ≡ groups_bytes gs ++ separation_by (line_ending_text by) (final_group gs)
  closed-bytes [] a = absurd a
  closed-bytes (g ∷ []) a = last-bytes g a ∙ ap (λ v. v ++ separation_by (line_ending_text by) g) (sym (append-nil (group_bytes g)))
  closed-bytes (g ∷ h ∷ gs) a = ap (λ v. group_bytes g ++ v) (closed-bytes (h ∷ gs) a.1) ∙ sym (append_assoc (group_bytes g) _ _)

-- ---- a pair is added

pub turn-join : (e : Encoding) (gs hs : List (List HeldLine)) → AreAllEnded e gs → AreInTurn e hs → AreInTurn e (gs ++ hs)
turn-join e [] hs a b = b
turn-join e (g ∷ gs) hs a b = turn-cons e g (gs ++ hs) a.0 (turn-join e gs hs a.1 b)

-- the groups with one more, of these bytes and with this line ending
abbrev pub groups_added : Encoding → LineEnding → List ℕ → LineEnding → List (List HeldLine) → List (List HeldLine)
groups_added e by x ending gs = all_closed e by gs ++ group_of e x (Some ending) ∷ (no_line e ∷ []) ∷ []

-- They stand for the body with these bytes behind it.
pub slots-added : (e : Encoding) (body : List ℕ) (gs : List (List HeldLine)) (by : LineEnding) (x : List ℕ) (ending : LineEnding) → is_editable e ≡ true
    → AreSlotsOf e body gs → IsSafeAfter by (final_group gs) → IsGroupText e x
    → AreSlotsOf e ((body ++ separation_by (line_ending_text by) (final_group (held_groups_of e body))) ++ (x ++ line_ending_text ending))
    (groups_added e by x ending gs)
slots-added e body gs by x ending ok s safe f =
    let final = slots-final e body gs ok s in
    record {
      turn = turn-join e (all_closed e by gs) (group_of e x (Some ending) ∷ (no_line e ∷ []) ∷ []) (closed-ended e by gs s.turn safe)
          (text-ended e x ending ok f, last-empty e);
      bytes =
          groups_bytes-append (all_closed e by gs) (group_of e x (Some ending) ∷ (no_line e ∷ []) ∷ [])
          ∙ rw (closed-bytes e by gs s.turn, group-bytes e ok x (Some ending), final, s.bytes, append-nil) refl;
    }

-- ---- a key is set

-- the groups after a key is set
abbrev pub groups_put : Repertoire → List ℕ → List ℕ → List ℕ → List (List HeldLine) → Option (List Change) → List (List HeldLine)
groups_put r source key value gs (Some cs) = groups_after r.encoding cs gs
groups_put r source key value gs None =
    let by : LineEnding = if ends_in_cr source then cr else lf in
    let front = groups_bytes gs ++ separation_by (line_ending_text by) (final_group gs) in
    groups_added r.encoding by (pair_bytes r (is_empty front) key value) lf gs

module _ (r : Repertoire) (source body key value : List ℕ) (gs : List (List HeldLine)) (ok : is_editable r.encoding ≡ true) (k : All scalar key)
    (v : All scalar value)
    (ends : ends_in_cr body ≡ true → ends_in_cr source ≡ true) (s : AreSlotsOf r.encoding body gs) where
  abbrev by : LineEnding
  by = if ends_in_cr source then cr else lf

  final-ends : (gs : List (List HeldLine)) → AreInTurn r.encoding gs → ends_in_cr (unended_bytes (final_group gs)) ≡ true → ends_in_cr (groups_bytes gs) ≡ true
  final-ends [] a c = absurd a
  final-ends (g ∷ []) a c =
      ap ends_in_cr (append-nil (group_bytes g) ∙ bytes-unended g ∙ ap (λ o. unended_bytes g ++ ending_bytes o) (ending-of r.encoding None g a.0)
      ∙ append-nil (unended_bytes g)) ∙ c
  final-ends (g ∷ h ∷ gs) a c = ends-right (group_bytes g) (groups_bytes (h ∷ gs)) (final-ends (h ∷ gs) a.1 c)

  safe : IsSafeAfter by (final_group gs)
  safe c = rw (ends (ap ends_in_cr (sym s.bytes) ∙ final-ends gs s.turn c)) refl

  put-at : (p : Option (List Change)) → at_last key (put_change r key value) true gs ≡ p
      → AreSlotsOf r.encoding (put_in r source key value (held_groups_of r.encoding body)) (groups_put r source key value gs p)
  put-at (Some cs) q =
      slots-last r.encoding body key (put_change r key value) gs ok (λ first p o g a h. refl) s (λ first p g a w h. pair-fit r first key value ok k v) cs q
      (put_added r source key value (held_groups_of r.encoding body))
  put-at None q =
      let plan = slots-none r.encoding body key (put_change r key value) gs ok (λ first p o g a h. refl) s q in
      let final = slots-final r.encoding body gs ok s in
      let first = is_empty (groups_bytes gs ++ separation_by (line_ending_text by) (final_group gs)) in
      let a = slots-added r.encoding body gs by (pair_bytes r first key value) lf ok s safe (pair-fit r first key value ok k v) in
      rw (plan, (own-slots r.encoding body ok).bytes, final, s.bytes) (rw (final, s.bytes) at a)

  -- A key that is set among groups that stand for a body is set in the body.
  pub slots-put : AreSlotsOf r.encoding (put_in r source key value (held_groups_of r.encoding body))
      (groups_put r source key value gs (at_last key (put_change r key value) true gs))
  slots-put = put-at (at_last key (put_change r key value) true gs) refl
