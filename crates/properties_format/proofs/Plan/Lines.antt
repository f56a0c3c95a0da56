-- The logical lines of groups that stand for a body, and of those after an edit.
use Rattle.std.proofs.Common.{◌≡◌, ℕ, Bool, true, false, List, [], ◌∷◌, ◌++◌, All, Option, Some, None, refl, ap, sym, ◌∙◌, inl, inr, arith}
use Rattle.std.proofs.lemmas.Bool.{cases_Bool}
use Rattle.properties_format.specs.Text.{scalar, LineEnding, lf, crlf, line_ending_text, is_empty}
use Rattle.properties_format.specs.Encoding.{Encoding, Repertoire}
use Rattle.properties_format.specs.Lines.{joined}
use Rattle.properties_format.specs.Items.{Outcome, ignored}
use Rattle.properties_format.specs.Body.{HeldLine, as_groups, as_lines, held_in, groups_bytes, HasKey, NoneHasKey, last_ending}
use Rattle.properties_format.specs.Edited.{is_editable, is_empty_line, is_left_open, final_group, separation_by, added_ending, pair_bytes}
use Rattle.properties_format.specs.Valued.{ending_among}
use Rattle.properties_format.specs.Changed.{line_before, IsPairWith, AreLeft, AreLinesSet}
use Rattle.properties_format.specs.Plan.{Change, stay, go, become, removal, all_stay, put_change, value_change}
use Rattle.properties_format.specs.Computed.Items.{outcome_of}
use Rattle.properties_format.specs.Computed.Body.{held_groups_of, has_key, unended_bytes}
use Rattle.properties_format.specs.Computed.Valued.{last_between, separator_by}
use Rattle.properties_format.proofs.Body.Decoded.{decoded-nil}
use Rattle.properties_format.proofs.Body.Groups.{as_lines-append, IsLastFit}
use Rattle.properties_format.proofs.Edited.Fronts.{with_line, logical_lines, outcome-empty}
use Rattle.properties_format.proofs.Edited.LogicalLines.{lines-append, lines-pair, none-lines, pair-lines, fit-open, closed-by_empty}
use Rattle.properties_format.proofs.Edited.Made.{has_key-true, has_key-false}
use Rattle.properties_format.proofs.GroupsInTurn.Lines.{AreLinesBy, texts-with, with_ending}
use Rattle.properties_format.proofs.GroupsInTurn.Merged.{AreInTurn, turn-first, turn-at, merged, are_one_ending, one-ending, after-lf}
use Rattle.properties_format.proofs.Valued.Made.{new_separator-meets}
use Rattle.properties_format.proofs.Valued.Separators.{added_bytes, new_separator-fit}
use Rattle.properties_format.proofs.Plan.Slots.{AreSlotsOf, SayPair, IsPairAfter, said-group, group_of, groups_after, no_line, slots-merged, lf-ignored, become-after, stay-after}
use Rattle.properties_format.proofs.Plan.Last.{first_behind, IsLastPlan, IsPlanOf}
use Rattle.properties_format.proofs.Plan.Added.{blank, closed_last, all_closed, groups_added, groups_put, pair-said}
use Rattle.properties_format.proofs.Plan.Listed.{guarded}
use Rattle.properties_format.proofs.Plan.Values.{value-said}
use Rattle.properties_format.proofs.Plan.NewValues.{groups_valued, added-said}

-- the logical lines of groups
abbrev pub lines_of : List (List HeldLine) → List (List ℕ)
lines_of gs = logical_lines (as_groups gs)

-- A blank line has none.
ignored-before : (x : List ℕ) (xs : List (List ℕ)) → outcome_of x ≡ ignored → with_line x xs ≡ xs
ignored-before x xs h = rw h refl

no_line-none : (e : Encoding) → lines_of ((no_line e ∷ []) ∷ []) ≡ []
no_line-none e = rw (decoded-nil e, outcome-empty) refl

-- ---- groups that stand for a body

-- If a CR and the single LF behind it are made one line ending, the logical lines are the same.
one-line : (e : Encoding) (h : List HeldLine) (gs : List (List HeldLine)) (g : List HeldLine) → AreInTurn e (h ∷ gs) → are_one_ending g h ≡ true
    → lines_of (h ∷ gs) ≡ lines_of gs
one-line e h gs g a k =
    let b = turn-first e h gs a in ignored-before (joined (as_lines h)) (lines_of gs) (lf-ignored e b.0 h b.1 (one-ending g h k).empty)

merged-lines : (e : Encoding) (gs : List (List HeldLine)) → AreInTurn e gs → lines_of (merged gs) ≡ lines_of gs
merged-lines e [] a = absurd a
merged-lines e (g ∷ []) a = refl
merged-lines e (g ∷ h ∷ gs) a = elim (cases_Bool (are_one_ending g h)) [
  | inl k ↦
      rw (k, texts-with (Some crlf) g, one-line e h gs g a.1 k, merged-lines e gs (after-lf e h gs a.1 (one-ending g h k).by_lf)) refl
  | inr k ↦ rw k (ap (with_line (joined (as_lines g))) (merged-lines e (h ∷ gs) a.1))
]

-- The logical lines of a body are those of the groups that stand for it.
pub slots-lines : (e : Encoding) (body : List ℕ) (gs : List (List HeldLine)) → is_editable e ≡ true → AreSlotsOf e body gs
    → lines_of (held_groups_of e body) ≡ lines_of gs
slots-lines e body gs ok s = ap lines_of (sym (slots-merged e body gs ok s)) ∙ merged-lines e gs s.turn

-- ---- a key is removed

-- A group without the key stays.
kept-lines : (key : List ℕ) (o : Outcome) (x : List ℕ) (xs left : List (List ℕ)) → ¬ (IsPairWith key x) → AreLeft (IsPairWith key) xs left
    → AreLeft (IsPairWith key) (line_before o x xs) (line_before o x left)
kept-lines key o x xs left n h = grind (arith)

-- The pairs with the key are gone, and the other lines are unchanged.
pub removed-lines : (e : Encoding) (key : List ℕ) (gs : List (List HeldLine)) → AreInTurn e gs
    → AreLeft (IsPairWith key) (lines_of gs) (lines_of (groups_after e (removal key gs) gs))
removed-lines e key [] a = absurd a
removed-lines e key (g ∷ []) a = elim (cases_Bool (has_key key g)) [
  | inl k ↦ let h = has_key-true key g k in rw (k, no_line-none e, lines-pair key g [] h) (inl (h, refl))
  | inr k ↦ rw k (kept-lines key (outcome_of (joined (as_lines g))) (joined (as_lines g)) [] [] (has_key-false key g k) refl)
]
removed-lines e key (g ∷ h ∷ gs) a = elim (cases_Bool (has_key key g)) [
  | inl k ↦
      let has = has_key-true key g k in
      elim (cases_Bool (are_one_ending g h)) [
        | inl one ↦
            rw (k, one, lines-pair key g (lines_of (h ∷ gs)) has, one-line e h gs g a.1 one)
            (inl (has, removed-lines e key gs (after-lf e h gs a.1 (one-ending g h one).by_lf)))
        | inr two ↦ rw (k, two, lines-pair key g (lines_of (h ∷ gs)) has) (inl (has, removed-lines e key (h ∷ gs) a.1))
      ]
  | inr k ↦
      rw k (kept-lines key (outcome_of (joined (as_lines g))) (joined (as_lines g)) (lines_of (h ∷ gs)) _ (has_key-false key g k)
      (removed-lines e key (h ∷ gs) a.1))
]

-- An LF in front has no logical line.
pub guarded-lines : (e : Encoding) (b : Bool) (gs : List (List HeldLine)) → lines_of (guarded e b gs) ≡ lines_of gs
guarded-lines e true gs = rw (decoded-nil e, outcome-empty) refl
guarded-lines e false gs = refl

-- ---- the last pair changes

-- The last pair has the value, or gets it, and the other lines are unchanged.
pub changed-lines : (e : Encoding) (key value : List ℕ) (change : Bool → List HeldLine → Change) (gs : List (List HeldLine)) (cs : List Change)
    → AreInTurn e gs → IsLastPlan key change true gs cs
    → ((first : Bool) (o : Option LineEnding) (g : List HeldLine) → AreLinesBy e o g → IsLastFit g → HasKey key g
    → IsPairAfter e key value g (change first g))
    → AreLinesSet key value (lines_of gs) (lines_of (groups_after e cs gs))
changed-lines e key value change gs cs a m pairs =
    let b = turn-at e m.before m.group m.after (rw m.division at a) in
    rw (m.division, m.plan) (of-change _ (pairs (first_behind true m.before) b.0 m.group b.1 b.2 m.has))
  where
    of-change : (c : Change) → IsPairAfter e key value m.group c
        → AreLinesSet key value (lines_of (m.before ++ m.group ∷ m.after))
        (lines_of (groups_after e (all_stay m.before ++ c ∷ all_stay m.after) (m.before ++ m.group ∷ m.after)))
    of-change go p = absurd p
    of-change stay p =
        rw (stay-after e m.before m.group m.after) (pair-lines m.before m.group m.group m.after key value m.has m.no_later p)
    of-change (become x) p =
        let g = group_of e x (last_ending m.group) in
        rw (become-after e x m.before m.group m.after)
        (pair-lines m.before m.group g m.after key value m.has m.no_later (said-group e key value x (last_ending m.group) p))

-- ---- a pair is added

-- Closing the last group leaves its logical line.
closed-line : (e : Encoding) (by : LineEnding) (g : List HeldLine) → AreLinesBy e None g → IsLastFit g
    → lines_of (closed_last e by g) ≡ lines_of (g ∷ [])
closed-line e by g a f = elim (cases_Bool (is_empty_line g)) [
  | inl k ↦ rw (k, lf-ignored e None g a (empty-unended g k)) refl
  | inr k ↦ elim (cases_Bool (is_left_open g)) [
    | inl o ↦
        let c = closed-by_empty (as_lines g) (fit-open g f o) in
        rw (k, o, as_lines-append (with_ending (Some by) g) (blank e by ∷ []), texts-with (Some by) g, decoded-nil e, c.1) refl
    | inr o ↦ rw (k, o, texts-with (Some by) g) refl
  ]
]
  where
    empty-unended : (g : List HeldLine) → is_empty_line g ≡ true → unended_bytes g ≡ []
    empty-unended (l ∷ m ∷ g) h = absurd (cc)
    empty-unended g h = grind (arith)

closed-lines : (e : Encoding) (by : LineEnding) (gs : List (List HeldLine)) → AreInTurn e gs → lines_of (all_closed e by gs) ≡ lines_of gs
closed-lines e by [] a = absurd a
closed-lines e by (g ∷ []) a = closed-line e by g a.0 a.1
closed-lines e by (g ∷ h ∷ gs) a = ap (with_line (joined (as_lines g))) (closed-lines e by (h ∷ gs) a.1)

pub added-lines : (e : Encoding) (key value : List ℕ) (by : LineEnding) (x : List ℕ) (ending : LineEnding) (gs : List (List HeldLine)) → AreInTurn e gs
    → NoneHasKey key gs → SayPair e key value x → AreLinesSet key value (lines_of gs) (lines_of (groups_added e by x ending gs))
added-lines e key value by x ending gs a none said =
    let g = group_of e x (Some ending) in
    let has = said-group e key value x (Some ending) said in
    let behind : lines_of (g ∷ (no_line e ∷ []) ∷ []) ≡ joined (as_lines g) ∷ [] =
    lines-pair key g (lines_of ((no_line e ∷ []) ∷ [])) (value, has) ∙ ap (λ v. joined (as_lines g) ∷ v) (no_line-none e) in
    inr (
      none-lines key gs none,
      joined (as_lines g),
      lines-append (all_closed e by gs) (g ∷ (no_line e ∷ []) ∷ []) ∙ rw (closed-lines e by gs a, behind) refl,
      has,
    )

-- ---- a key is set, and a value

pub put-lines : (r : Repertoire) (source key value : List ℕ) (gs : List (List HeldLine)) → is_editable r.encoding ≡ true → All scalar key → All scalar value
    → AreInTurn r.encoding gs → (p : Option (List Change)) → IsPlanOf key (put_change r key value) true gs p
    → AreLinesSet key value (lines_of gs) (lines_of (groups_put r source key value gs p))
put-lines r source key value gs ok k v a (Some cs) m =
    changed-lines r.encoding key value (put_change r key value) gs cs a m (λ first o g b f h. pair-said r first key value ok k v)
put-lines r source key value gs ok k v a None none =
    let first = is_empty (groups_bytes gs ++ separation_by (added_ending source) (final_group gs)) in
    added-lines r.encoding key value _ (pair_bytes r first key value) lf gs a none (pair-said r first key value ok k v)

pub valued-lines : (r : Repertoire) (gs : List (List HeldLine)) (key value : List ℕ) → is_editable r.encoding ≡ true → All scalar key → All scalar value
    → AreInTurn r.encoding gs → (p : Option (List Change)) → IsPlanOf key (value_change r value) true gs p
    → AreLinesSet key value (lines_of gs) (lines_of (groups_valued r gs key value gs p))
valued-lines r gs key value ok k v a (Some cs) m =
    changed-lines r.encoding key value (value_change r value) gs cs a m (λ first o g b f h. value-said r key value first o g ok v b f h)
valued-lines r gs key value ok k v a None none =
    let by = ending_among lf (held_in gs) in
    let first = is_empty (groups_bytes gs ++ separation_by (line_ending_text by) (final_group gs)) in
    let sep = separator_by key (last_between gs) in
    let fit = new_separator-fit gs key sep (new_separator-meets gs key) in
    added-lines r.encoding key value by (added_bytes r first key sep value) by gs a none (added-said r first key sep value ok k v fit)
