-- A plan that is carried out on groups in turn, of which a CR may come before a single LF: the result is such groups
-- again, and its bytes are those of the plan for the groups that their bytes have. So an editor may keep the groups
-- that a plan leaves as they are, and need not read the bytes again.
use Rattle.std.proofs.Common.{◌≡◌, ◌⊎◌, ℕ, Bool, true, false, List, [], ◌∷◌, ◌++◌, Option, Some, None, refl, ap, sym, ◌∙◌, inl, inr, append_assoc, append-nil, subst}
use Rattle.std.specs.Prelude.{if◌then◌else◌}
use Rattle.std.proofs.lemmas.Bool.{cases_Bool}
use Rattle.properties_format.specs.Text.{LineEnding, lf, cr, crlf}
use Rattle.properties_format.specs.Encoding.{Encoding}
use Rattle.properties_format.specs.Lines.{IsWhole, joined}
use Rattle.properties_format.specs.Body.{HeldLine, HasKey, NoneHasKey, as_lines, AreGroupsOf, ending_bytes, group_bytes, groups_bytes, last_ending}
use Rattle.properties_format.specs.Edited.{is_editable, final_group}
use Rattle.properties_format.specs.Valued.{HoldsPair}
use Rattle.properties_format.specs.Plan.{Change, stay, go, become, planned, removal, at_last, planned_or, this_or_later, all_stay}
use Rattle.properties_format.specs.Items.{ignored}
use Rattle.properties_format.specs.Computed.Items.{outcome_of}
use Rattle.properties_format.specs.Computed.Lines.{ends_in_cr}
use Rattle.properties_format.specs.Computed.Cut.{cut_of, decoded_line}
use Rattle.properties_format.specs.Computed.Body.{held_lines_of, held_groups_of, unended_bytes, has_key, is_pair_with}
use Rattle.properties_format.proofs.Body.Decoded.{decoded-nil, IsCut-lines}
use Rattle.properties_format.proofs.Body.Groups.{IsLastFit, groups_bytes-append, held-body, held-bytes, held-last, held_groups_of-meets, held_groups_of-only}
use Rattle.properties_format.proofs.Cut.Meets.{cut_of-meets}
use Rattle.properties_format.proofs.Edited.Fronts.{outcome-empty}
use Rattle.properties_format.proofs.Edited.Made.{has_key-false, HasKey-test}
use Rattle.properties_format.proofs.GroupsInTurn.Lines.{AreLinesBy, bytes-unended, ending-of, with_ending, texts-with, unended-some, unended-with, ending-with, bytes-with, lines-with}
use Rattle.properties_format.proofs.GroupsInTurn.Merged.{AreInTurn, in-turn, turn-first, turn-at, IsEndedGroup, IsLastGroup, merged, merged-final, merged-groups, are_one_ending, IsOneEnding, one-ending, one-bytes, after-lf, last-lines}
use Rattle.properties_format.proofs.Plan.Last.{first_behind, IsLastPlan, at_last-meets, at_last-some, planned-at}

-- ---- the groups after a plan

-- an empty last line
abbrev pub no_line : Encoding → HeldLine
no_line e = record { bytes = []; text = decoded_line e []; ending = None }

-- a group of these bytes, with this last line ending
abbrev pub group_of : Encoding → List ℕ → Option LineEnding → List HeldLine
group_of e x o = with_ending o (held_lines_of e x)

-- the groups after these changes; if a group that goes ends in a CR, a single LF behind it goes too
abbrev pub groups_after : Encoding → List Change → List (List HeldLine) → List (List HeldLine)
groups_after e (go ∷ cs) (g ∷ []) = (no_line e ∷ []) ∷ []
groups_after e (go ∷ d ∷ cs) (g ∷ h ∷ gs) = if are_one_ending g h then groups_after e cs gs else groups_after e (d ∷ cs) (h ∷ gs)
groups_after e (stay ∷ cs) (g ∷ gs) = g ∷ groups_after e cs gs
groups_after e (become x ∷ cs) (g ∷ gs) = group_of e x (last_ending g) ∷ groups_after e cs gs
groups_after e cs gs = gs

-- the changes of the groups, of which each CR and the single LF behind it are made one line ending
abbrev pub merged_plan : List Change → List (List HeldLine) → List Change
merged_plan (c ∷ d ∷ cs) (g ∷ h ∷ gs) = if are_one_ending g h then c ∷ merged_plan cs gs else c ∷ merged_plan (d ∷ cs) (h ∷ gs)
merged_plan cs gs = cs

-- Bytes that a group may become: they are one whole group, and don't end in a CR.
pub record IsGroupText (e : Encoding) (x : List ℕ) : Type 0 where
  pub whole : IsWhole (as_lines (held_lines_of e x))
  pub no_cr : ends_in_cr x ≡ false

-- The bytes are a pair with this key and this value.
abbrev pub SayPair : Encoding → List ℕ → List ℕ → List ℕ → Type 0
SayPair e key value x = HoldsPair key value (held_lines_of e x)

-- The group is a pair with this key and this value after the change.
abbrev pub IsPairAfter : Encoding → List ℕ → List ℕ → List HeldLine → Change → Type 0
IsPairAfter e key value g stay = HoldsPair key value g
IsPairAfter e key value g go = ⊥
IsPairAfter e key value g (become x) = SayPair e key value x

-- The group of such bytes is such a pair, whatever its line ending.
pub said-group : (e : Encoding) (key value x : List ℕ) (o : Option LineEnding) → SayPair e key value x → HoldsPair key value (group_of e x o)
said-group e key value x o h = rw (texts-with o (held_lines_of e x)) h

abbrev pub IsFitChange : Encoding → Change → Type 0
IsFitChange e (become x) = IsGroupText e x
IsFitChange e c = Unit {0}

-- There is a fit change for each group, and single LFs stay.
abbrev pub IsPlanFor : Encoding → List Change → List (List HeldLine) → Type 0
IsPlanFor e [] [] = Unit {0}
IsPlanFor e (c ∷ cs) (g ∷ gs) = IsFitChange e c × (last_ending g ≡ Some lf → unended_bytes g ≡ [] → c ≡ stay) × IsPlanFor e cs gs
IsPlanFor e cs gs = ⊥

-- ---- a group of new bytes

module _ (e : Encoding) (ok : is_editable e ≡ true) (x : List ℕ) where
  -- Its lines have no last line ending.
  new-lines : AreLinesBy e None (held_lines_of e x)
  new-lines = last-lines e (cut_of e x).ended (cut_of e x).last (IsCut-lines e x (cut_of e x) ok (cut_of-meets e x)).are_lines

  -- Their bytes are the new ones.
  new-bytes : group_bytes (held_lines_of e x) ≡ x
  new-bytes = held-bytes e (cut_of e x).ended (cut_of e x).last ∙ sym (IsCut-lines e x (cut_of e x) ok (cut_of-meets e x)).text

  new-unended : unended_bytes (held_lines_of e x) ≡ x
  new-unended =
      sym (bytes-unended (held_lines_of e x)
      ∙ ap (λ o. unended_bytes (held_lines_of e x) ++ ending_bytes o) (held-last e (cut_of e x).ended (cut_of e x).last)
      ∙ append-nil (unended_bytes (held_lines_of e x)))
      ∙ new-bytes

  -- With another line ending, they are followed by it.
  pub group-bytes : (o : Option LineEnding) → group_bytes (group_of e x o) ≡ x ++ ending_bytes o
  group-bytes o = of-lines (held_lines_of e x) new-lines new-unended
    where
      of-lines : (g : List HeldLine) → AreLinesBy e None g → unended_bytes g ≡ x → group_bytes (with_ending o g) ≡ x ++ ending_bytes o
      of-lines [] a u = absurd a
      of-lines (h ∷ hs) a u = bytes-with o h hs ∙ ap (λ v. v ++ ending_bytes o) u

  pub group-ending : (o : Option LineEnding) → last_ending (group_of e x o) ≡ o
  group-ending o = of-lines (held_lines_of e x) new-lines
    where
      of-lines : (g : List HeldLine) → AreLinesBy e None g → last_ending (with_ending o g) ≡ o
      of-lines [] a = absurd a
      of-lines (h ∷ hs) a = ending-with o h hs

  pub group-unended : (o : Option LineEnding) → unended_bytes (group_of e x o) ≡ x
  group-unended o = unended-with o (held_lines_of e x) ∙ new-unended

  pub group-lines : (o : Option LineEnding) → ends_in_cr x ≡ false → AreLinesBy e o (group_of e x o)
  group-lines o n = lines-with e None o (held_lines_of e x) new-lines (λ c. let q = sym (ap ends_in_cr new-unended) ∙ c in absurd (cc))

-- ---- the bytes

-- The plan's bytes for the groups as they stand are the plan's bytes for the groups that their bytes have.
pub bytes-after : (e : Encoding) (cs : List Change) (gs : List (List HeldLine)) → is_editable e ≡ true → IsPlanFor e cs gs
    → groups_bytes (groups_after e cs gs) ≡ planned (merged_plan cs gs) (merged gs)
bytes-after e [] [] ok p = refl
bytes-after e (stay ∷ []) (g ∷ []) ok p = refl
bytes-after e (go ∷ []) (g ∷ []) ok p = refl
bytes-after e (become x ∷ []) (g ∷ []) ok p = ap (λ v. v ++ []) (group-bytes e ok x (last_ending g)) ∙ append_assoc x _ []
bytes-after e (c ∷ d ∷ cs) (g ∷ h ∷ gs) ok p = elim (cases_Bool (are_one_ending g h)) [
  | inl k ↦ let m = one-ending g h k in rw (k, p.2.1 m.by_lf m.empty) (one c k m (bytes-after e cs gs ok p.2.2))
  | inr k ↦ rw k (two c k (bytes-after e (d ∷ cs) (h ∷ gs) ok p.2))
]
  where
    one : (c : Change) → are_one_ending g h ≡ true → IsOneEnding g h → groups_bytes (groups_after e cs gs) ≡ planned (merged_plan cs gs) (merged gs)
        → groups_bytes (groups_after e (c ∷ stay ∷ cs) (g ∷ h ∷ gs)) ≡ planned (c ∷ merged_plan cs gs) (with_ending (Some crlf) g ∷ merged gs)
    one stay k m i = rw (i, one-bytes g h m) (sym (append_assoc (group_bytes g) (group_bytes h) _))
    one go k m i = rw k i
    one (become x) k m i =
        rw (group-bytes e ok x (last_ending g), i, m.by_cr, crlf-ending g m.by_cr, lf-bytes h m) (append_assoc x _ _)
      where
        crlf-ending : (g : List HeldLine) → last_ending g ≡ Some cr → last_ending (with_ending (Some crlf) g) ≡ Some crlf
        crlf-ending [] s = absurd (cc)
        crlf-ending (i ∷ is) s = ending-with (Some crlf) i is

        lf-bytes : (h : List HeldLine) → IsOneEnding g h → group_bytes h ≡ ending_bytes (Some lf)
        lf-bytes h m = bytes-unended h ∙ rw (m.empty, m.by_lf) refl

    two : (c : Change) → are_one_ending g h ≡ false
        → groups_bytes (groups_after e (d ∷ cs) (h ∷ gs)) ≡ planned (merged_plan (d ∷ cs) (h ∷ gs)) (merged (h ∷ gs))
        → groups_bytes (groups_after e (c ∷ d ∷ cs) (g ∷ h ∷ gs)) ≡ planned (c ∷ merged_plan (d ∷ cs) (h ∷ gs)) (g ∷ merged (h ∷ gs))
    two stay k i = ap (λ v. group_bytes g ++ v) i
    two go k i = rw k i
    two (become x) k i = rw (group-bytes e ok x (last_ending g), i) (append_assoc x _ _)
bytes-after e [] (g ∷ gs) ok p = absurd p
bytes-after e (c ∷ cs) [] ok p = absurd p
bytes-after e (c ∷ []) (g ∷ h ∷ gs) ok p = absurd p.2
bytes-after e (c ∷ d ∷ cs) (g ∷ []) ok p = absurd p.2

-- ---- the groups are in turn

pub turn-cons : (e : Encoding) (g : List HeldLine) (gs : List (List HeldLine)) → IsEndedGroup e g → AreInTurn e gs → AreInTurn e (g ∷ gs)
turn-cons e g [] w a = absurd a
turn-cons e g (h ∷ gs) w a = (w, a)

-- an empty last line is a last group
pub last-empty : (e : Encoding) → IsLastGroup e (no_line e ∷ [])
last-empty e = rw (decoded-nil e) ((tt, refl, refl), inl (inr (refl, refl)))

-- A group of such bytes with a line ending is an ended one,
pub text-ended : (e : Encoding) (x : List ℕ) (by : LineEnding) → is_editable e ≡ true → IsGroupText e x → IsEndedGroup e (group_of e x (Some by))
text-ended e x by ok f = (by, group-lines e ok x (Some by) f.no_cr, rw texts-with f.whole)

-- and so is a group that becomes such bytes, if it was one.
ended-new : (e : Encoding) (x : List ℕ) (g : List HeldLine) → is_editable e ≡ true → IsGroupText e x → IsEndedGroup e g
    → IsEndedGroup e (group_of e x (last_ending g))
ended-new e x g ok f (by, a, w) = rw (ending-of e (Some by) g a) (text-ended e x by ok f)

last-new : (e : Encoding) (x : List ℕ) (g : List HeldLine) → is_editable e ≡ true → IsGroupText e x → IsLastGroup e g
    → IsLastGroup e (group_of e x (last_ending g))
last-new e x g ok f (a, w) =
    rw (ending-of e None g a) (group-lines e ok x None f.no_cr, inl (rw (texts-with None (held_lines_of e x)) f.whole))

-- The groups after a plan are in turn.
pub turn-after : (e : Encoding) (cs : List Change) (gs : List (List HeldLine)) → is_editable e ≡ true → AreInTurn e gs → IsPlanFor e cs gs
    → AreInTurn e (groups_after e cs gs)
turn-after e (stay ∷ []) (g ∷ []) ok a p = a
turn-after e (go ∷ []) (g ∷ []) ok a p = last-empty e
turn-after e (become x ∷ []) (g ∷ []) ok a p = last-new e x g ok p.0 a
turn-after e (stay ∷ d ∷ cs) (g ∷ h ∷ gs) ok a p = turn-cons e g (groups_after e (d ∷ cs) (h ∷ gs)) a.0 (turn-after e (d ∷ cs) (h ∷ gs) ok a.1 p.2)
turn-after e (become x ∷ d ∷ cs) (g ∷ h ∷ gs) ok a p =
    turn-cons e (group_of e x (last_ending g)) (groups_after e (d ∷ cs) (h ∷ gs)) (ended-new e x g ok p.0 a.0) (turn-after e (d ∷ cs) (h ∷ gs) ok a.1 p.2)
turn-after e (go ∷ d ∷ cs) (g ∷ h ∷ gs) ok a p = elim (cases_Bool (are_one_ending g h)) [
  | inl k ↦ rw k (turn-after e cs gs ok (after-lf e h gs a.1 (one-ending g h k).by_lf) p.2.2)
  | inr k ↦ rw k (turn-after e (d ∷ cs) (h ∷ gs) ok a.1 p.2)
]
turn-after e cs [] ok a p = absurd a
turn-after e [] (g ∷ gs) ok a p = absurd p
turn-after e (c ∷ []) (g ∷ h ∷ gs) ok a p = absurd p.2
turn-after e (c ∷ d ∷ cs) (g ∷ []) ok a p = absurd p.2

-- ---- the plans of the groups that their bytes have

-- A group with another last line ending has the same keys.
key-with : (key : List ℕ) (o : Option LineEnding) (g : List HeldLine) → has_key key (with_ending o g) ≡ has_key key g
key-with key o g = ap (λ v. is_pair_with key (outcome_of (joined v))) (texts-with o g)

-- Removing a key leaves the same groups out.
pub removal-merged : (key : List ℕ) (gs : List (List HeldLine)) → removal key (merged gs) ≡ merged_plan (removal key gs) gs
removal-merged key [] = refl
removal-merged key (g ∷ []) = refl
removal-merged key (g ∷ h ∷ gs) = elim (cases_Bool (are_one_ending g h)) [
  | inl k ↦ rw (k, key-with key (Some crlf) g, removal-merged key gs) refl
  | inr k ↦ rw (k, removal-merged key (h ∷ gs)) refl
]

-- ---- what is no pair

-- A single LF is a blank line,
pub lf-ignored : (e : Encoding) (o : Option LineEnding) (g : List HeldLine) → AreLinesBy e o g → unended_bytes g ≡ []
    → outcome_of (joined (as_lines g)) ≡ ignored
lf-ignored e o [] a u = absurd a
lf-ignored e o (h ∷ []) (p, s, t) u = rw (s, u, decoded-nil e) outcome-empty
lf-ignored e o (h ∷ i ∷ hs) a u = let q = unended-some e o (h ∷ i ∷ hs) a u in absurd (cc)

-- and so no pair.
pub lf-no_key : (e : Encoding) (o : Option LineEnding) (key : List ℕ) (g : List HeldLine) → AreLinesBy e o g → unended_bytes g ≡ []
    → has_key key g ≡ false
lf-no_key e o key g a u = ap (is_pair_with key) (lf-ignored e o g a u)

lf-stays : (e : Encoding) (o : Option LineEnding) (key : List ℕ) (g : List HeldLine) → AreLinesBy e o g → unended_bytes g ≡ []
    → (if has_key key g then go else stay) ≡ stay
lf-stays e o key g a u = rw (lf-no_key e o key g a u) refl

removal-fit : (e : Encoding) (key : List ℕ) (g : List HeldLine) → IsFitChange e (if has_key key g then go else stay)
removal-fit e key g = elim (cases_Bool (has_key key g)) [
  | inl k ↦ rw k tt
  | inr k ↦ rw k tt
]

-- So a removal is a plan.
pub removal-plan : (e : Encoding) (key : List ℕ) (gs : List (List HeldLine)) → AreInTurn e gs → IsPlanFor e (removal key gs) gs
removal-plan e key [] a = absurd a
removal-plan e key (g ∷ []) a = (removal-fit e key g, (λ l u. lf-stays e None key g a.0 u), tt)
removal-plan e key (g ∷ h ∷ gs) a = (removal-fit e key g, (λ l u. lf-stays e (Some a.0.0) key g a.0.1 u), removal-plan e key (h ∷ gs) a.1)

-- ---- the last pair with a key

-- Groups that stay in the one list stay in the other.
pub stay-merged : (gs : List (List HeldLine)) → all_stay (merged gs) ≡ merged_plan (all_stay gs) gs
stay-merged [] = refl
stay-merged (g ∷ []) = refl
stay-merged (g ∷ h ∷ gs) = elim (cases_Bool (are_one_ending g h)) [
  | inl k ↦ rw (k, stay-merged gs) refl
  | inr k ↦ rw (k, stay-merged (h ∷ gs)) refl
]

-- A group that isn't made one line ending with the next is before those behind it.
plan-two : (c : Change) (cs : List Change) (g h : List HeldLine) (gs : List (List HeldLine)) → are_one_ending g h ≡ false
    → merged_plan (c ∷ cs) (g ∷ h ∷ gs) ≡ c ∷ merged_plan cs (h ∷ gs)
plan-two c [] g h gs k = refl
plan-two c (d ∷ cs) g h gs k = rw k refl

abbrev pub merged_if : List (List HeldLine) → Option (List Change) → Option (List Change)
merged_if gs None = None
merged_if gs (Some cs) = Some (merged_plan cs gs)

module _ (e : Encoding) (key : List ℕ) (change : Bool → List HeldLine → Change)
    (same : (first : Bool) (p o : Option LineEnding) (g : List HeldLine) → AreLinesBy e p g → has_key key g ≡ true
    → change first (with_ending o g) ≡ change first g) where
  -- One line ending is made of two groups,
  last-one : (first : Bool) (g h : List HeldLine) (gs : List (List HeldLine)) (p : Option LineEnding) (o : Option (List Change)) → AreLinesBy e p g
      → are_one_ending g h ≡ true → has_key key h ≡ false
      → at_last key change false gs ≡ o → at_last key change false (merged gs) ≡ merged_if gs o
      → at_last key change first (with_ending (Some crlf) g ∷ merged gs) ≡ merged_if (g ∷ h ∷ gs) (at_last key change first (g ∷ h ∷ gs))
  last-one first g h gs p (Some cs) a k n s i = rw (i, s, k) refl
  last-one first g h gs p None a k n s i = elim (cases_Bool (has_key key g)) [
    | inl q ↦ rw (i, s, n, key-with key (Some crlf) g, q, k, same first p (Some crlf) g a q, stay-merged gs) refl
    | inr q ↦ rw (i, s, n, key-with key (Some crlf) g, q) refl
  ]

  -- or none.
  last-two : (first : Bool) (g h : List HeldLine) (gs : List (List HeldLine)) (o : Option (List Change)) → are_one_ending g h ≡ false
      → at_last key change false (h ∷ gs) ≡ o → at_last key change false (merged (h ∷ gs)) ≡ merged_if (h ∷ gs) o
      → at_last key change first (g ∷ merged (h ∷ gs)) ≡ merged_if (g ∷ h ∷ gs) (at_last key change first (g ∷ h ∷ gs))
  last-two first g h gs (Some cs) k s i =
      ap (λ v. this_or_later v (has_key key g) (change first g) (merged (h ∷ gs))) i
      ∙ sym (ap (λ v. merged_if (g ∷ h ∷ gs) (this_or_later v (has_key key g) (change first g) (h ∷ gs))) s ∙ ap Some (plan-two stay cs g h gs k))
  last-two first g h gs None k s i =
      ap (λ v. this_or_later v (has_key key g) (change first g) (merged (h ∷ gs))) i
      ∙ alone (has_key key g)
      ∙ sym (ap (λ v. merged_if (g ∷ h ∷ gs) (this_or_later v (has_key key g) (change first g) (h ∷ gs))) s)
    where
      alone : (b : Bool) → this_or_later None b (change first g) (merged (h ∷ gs)) ≡ merged_if (g ∷ h ∷ gs) (this_or_later None b (change first g) (h ∷ gs))
      alone false = refl
      alone true = ap (λ v. Some (change first g ∷ v)) (stay-merged (h ∷ gs)) ∙ sym (ap Some (plan-two (change first g) (all_stay (h ∷ gs)) g h gs k))

  -- The plan for the last pair is the plan for it among the groups that the bytes have.
  pub last-merged : (first : Bool) (gs : List (List HeldLine)) → AreInTurn e gs
      → at_last key change first (merged gs) ≡ merged_if gs (at_last key change first gs)
  last-merged first [] a = absurd a
  last-merged first (g ∷ []) a = alone (has_key key g)
    where
      alone : (b : Bool) → this_or_later None b (change first g) [] ≡ merged_if (g ∷ []) (this_or_later None b (change first g) [])
      alone true = refl
      alone false = refl
  last-merged first (g ∷ h ∷ gs) a = elim (cases_Bool (are_one_ending g h)) [
    | inl k ↦
        let m = one-ending g h k in
        let r = after-lf e h gs a.1 m.by_lf in
        let b = turn-first e h gs a.1 in
        rw k (last-one first g h gs (Some a.0.0) (at_last key change false gs) a.0.1 k (lf-no_key e b.0 key h b.1 m.empty)
        refl (last-merged false gs r))
    | inr k ↦ rw k (last-two first g h gs (at_last key change false (h ∷ gs)) k refl (last-merged false (h ∷ gs) a.1))
  ]

  -- It is a plan, if what becomes of a pair with the key is fit.
  module _ (fit : (first : Bool) (p : Option LineEnding) (g : List HeldLine) → AreLinesBy e p g → IsLastFit g → has_key key g ≡ true
      → IsFitChange e (change first g)) where
    stay-fit : (gs : List (List HeldLine)) → IsPlanFor e (all_stay gs) gs
    stay-fit [] = tt
    stay-fit (g ∷ gs) = (tt, (λ l u. refl), stay-fit gs)

    -- A change among groups that stay.
    plan-among : (c : Change) (before : List (List HeldLine)) (g : List HeldLine) (after : List (List HeldLine)) → IsFitChange e c
        → (last_ending g ≡ Some lf → unended_bytes g ≡ [] → c ≡ stay) → IsPlanFor e (all_stay before ++ c ∷ all_stay after) (before ++ g ∷ after)
    plan-among c [] g after f k = (f, k, stay-fit after)
    plan-among c (h ∷ before) g after f k = (tt, (λ l u. refl), plan-among c before g after f k)

    pub last-plan : (first : Bool) (gs : List (List HeldLine)) (cs : List Change) → AreInTurn e gs → at_last key change first gs ≡ Some cs → IsPlanFor e cs gs
    last-plan first gs cs a q =
        let m : IsLastPlan key change first gs cs = rw q at (at_last-meets key change first gs) in
        let (o, b, f) = turn-at e m.before m.group m.after (rw m.division at a) in
        rw (m.division, m.plan)
        (plan-among _ m.before m.group m.after (fit (first_behind first m.before) o m.group b f (HasKey-test key m.group m.has))
        (λ l u. let n = lf-no_key e o key m.group b u in let h = HasKey-test key m.group m.has in absurd (cc)))

-- An empty last line isn't a pair.
pub no_line-other : (e : Encoding) (key : List ℕ) → ¬ (HasKey key (no_line e ∷ []))
no_line-other e key = has_key-false key (no_line e ∷ []) (lf-no_key e None key (no_line e ∷ []) (rw (decoded-nil e) (tt, refl, refl)) refl)

-- ---- the groups after the last pair changed

-- The groups that stay are there after it.
pub all-after : (e : Encoding) (gs : List (List HeldLine)) → groups_after e (all_stay gs) gs ≡ gs
all-after e [] = refl
all-after e (g ∷ gs) = ap (λ v. g ∷ v) (all-after e gs)

pub stay-after : (e : Encoding) (before : List (List HeldLine)) (g : List HeldLine) (after : List (List HeldLine))
    → groups_after e (all_stay before ++ stay ∷ all_stay after) (before ++ g ∷ after) ≡ before ++ g ∷ after
stay-after e [] g after = ap (λ v. g ∷ v) (all-after e after)
stay-after e (f ∷ before) g after = ap (λ v. f ∷ v) (stay-after e before g after)

pub become-after : (e : Encoding) (x : List ℕ) (before : List (List HeldLine)) (g : List HeldLine) (after : List (List HeldLine))
    → groups_after e (all_stay before ++ become x ∷ all_stay after) (before ++ g ∷ after) ≡ before ++ group_of e x (last_ending g) ∷ after
become-after e x [] g after = ap (λ v. group_of e x (last_ending g) ∷ v) (all-after e after)
become-after e x (f ∷ before) g after = ap (λ v. f ∷ v) (become-after e x before g after)

-- If the last pair stays, all do.
pub last-stays : (key : List ℕ) (change : Bool → List HeldLine → Change) (first : Bool) (gs : List (List HeldLine)) (cs : List Change)
    → (m : IsLastPlan key change first gs cs) → change (first_behind first m.before) m.group ≡ stay
    → (planned cs gs ≡ groups_bytes gs) × ((e : Encoding) → groups_after e cs gs ≡ gs)
last-stays key change first gs cs m s = (
  rw (m.plan, m.division, s) (planned-at stay m.before m.group m.after ∙ sym (groups_bytes-append m.before (m.group ∷ m.after))),
  λ e. rw (m.plan, m.division, s) (stay-after e m.before m.group m.after),
)

-- ---- a group that becomes bytes, and then others

-- A group of the bytes x changes: it becomes y, or stays if these are the same.
abbrev pub Becomes : List ℕ → List ℕ → Change → Type 0
Becomes x y c = (c ≡ become y) ⊎ (c ≡ stay) × (y ≡ x)

pub becomes-after : (e : Encoding) (x y : List ℕ) (o : Option LineEnding) (c : Change) (before after : List (List HeldLine)) → is_editable e ≡ true
    → Becomes x y c → groups_after e (all_stay before ++ c ∷ all_stay after) (before ++ group_of e x o ∷ after) ≡ before ++ group_of e y o ∷ after
becomes-after e x y o c before after ok (inl h) = rw (h, become-after e y before (group_of e x o) after, group-ending e ok x o) refl
becomes-after e x y o c before after ok (inr h) = rw (h.0, h.1) (stay-after e before (group_of e x o) after)

pub becomes-bytes : (e : Encoding) (x y : List ℕ) (o : Option LineEnding) (c : Change) (before after : List (List HeldLine)) → is_editable e ≡ true
    → Becomes x y c → planned (all_stay before ++ c ∷ all_stay after) (before ++ group_of e x o ∷ after) ≡ groups_bytes (before ++ group_of e y o ∷ after)
becomes-bytes e x y o c before after ok (inl h) =
    rw (h, planned-at, group-ending e ok x o, groups_bytes-append, group-bytes e ok y o)
    (ap (λ v. groups_bytes before ++ v) (sym (append_assoc y (ending_bytes o) (groups_bytes after))))
becomes-bytes e x y o c before after ok (inr h) =
    rw (h.0, h.1, planned-at) (sym (groups_bytes-append before (group_of e x o ∷ after)))

-- The group of the bytes x is the last pair with the key, and changes so.
pub again-at : (e : Encoding) (key value : List ℕ) (other : Bool → List HeldLine → Change) (before : List (List HeldLine)) (x y : List ℕ)
    (o : Option LineEnding)
    (after : List (List HeldLine)) → is_editable e ≡ true → SayPair e key value x → NoneHasKey key after
    → Becomes x y (other (first_behind true before) (group_of e x o))
    → (ds : List Change) × (at_last key other true (before ++ group_of e x o ∷ after) ≡ Some ds)
    × (groups_after e ds (before ++ group_of e x o ∷ after) ≡ before ++ group_of e y o ∷ after)
again-at e key value other before x y o after ok said none b = (
  _,
  at_last-some key other true before (group_of e x o) after (value, said-group e key value x o said) none,
  becomes-after e x y o (other (first_behind true before) (group_of e x o)) before after ok b,
)

-- ---- edits in turn

-- These groups stand for a body: their bytes are its bytes.
pub record AreSlotsOf (e : Encoding) (body : List ℕ) (gs : List (List HeldLine)) : Type 0 where
  pub turn : AreInTurn e gs
  pub bytes : groups_bytes gs ≡ body

-- So do its own groups.
pub own-slots : (e : Encoding) (body : List ℕ) → is_editable e ≡ true → AreSlotsOf e body (held_groups_of e body)
own-slots e body ok =
    let are = held_groups_of-meets e body in
    record { turn = in-turn e body (held_groups_of e body) ok are; bytes = held-body e body (held_groups_of e body) ok are }

-- Its groups are these, with each CR and the single LF behind it made one line ending.
pub slots-merged : (e : Encoding) (body : List ℕ) (gs : List (List HeldLine)) → is_editable e ≡ true → AreSlotsOf e body gs → merged gs ≡ held_groups_of e body
slots-merged e body gs ok s = held_groups_of-only e body (merged gs) (subst (λ v. AreGroupsOf e v (merged gs)) s.bytes (merged-groups e gs ok s.turn))

pub slots-final : (e : Encoding) (body : List ℕ) (gs : List (List HeldLine)) → is_editable e ≡ true → AreSlotsOf e body gs
    → final_group (held_groups_of e body) ≡ final_group gs
slots-final e body gs ok s = ap final_group (sym (slots-merged e body gs ok s)) ∙ merged-final e gs s.turn

-- If a plan is carried out on groups that stand for a body, what comes out stands for what the plan makes of the body.
pub slots-planned : (e : Encoding) (body : List ℕ) (gs : List (List HeldLine)) (cs ds : List Change) → is_editable e ≡ true → AreSlotsOf e body gs
    → IsPlanFor e cs gs → ds ≡ merged_plan cs gs → AreSlotsOf e (planned ds (held_groups_of e body)) (groups_after e cs gs)
slots-planned e body gs cs ds ok s p d =
    record { turn = turn-after e cs gs ok s.turn p; bytes = bytes-after e cs gs ok p ∙ rw (d, ← slots-merged e body gs ok s) refl }

-- So a key is removed from groups that stand for a body.
pub slots-removed : (e : Encoding) (body key : List ℕ) (gs : List (List HeldLine)) → is_editable e ≡ true → AreSlotsOf e body gs
    → AreSlotsOf e (planned (removal key (held_groups_of e body)) (held_groups_of e body)) (groups_after e (removal key gs) gs)
slots-removed e body key gs ok s =
    slots-planned e body gs (removal key gs) (removal key (held_groups_of e body)) ok s (removal-plan e key gs s.turn)
    (ap (removal key) (sym (slots-merged e body gs ok s)) ∙ removal-merged key gs)

-- So the last pair with a key changes in groups that stand for a body, if there is one.
module _ (e : Encoding) (body key : List ℕ) (change : Bool → List HeldLine → Change) (gs : List (List HeldLine)) (ok : is_editable e ≡ true)
    (same : (first : Bool) (p o : Option LineEnding) (g : List HeldLine) → AreLinesBy e p g → has_key key g ≡ true
    → change first (with_ending o g) ≡ change first g)
    (s : AreSlotsOf e body gs) where
  last-held : at_last key change true (held_groups_of e body) ≡ merged_if gs (at_last key change true gs)
  last-held = ap (at_last key change true) (sym (slots-merged e body gs ok s)) ∙ last-merged e key change same true gs s.turn

  pub slots-none : at_last key change true gs ≡ None → at_last key change true (held_groups_of e body) ≡ None
  slots-none q = last-held ∙ ap (merged_if gs) q

  pub slots-last : ((first : Bool) (p : Option LineEnding) (g : List HeldLine) → AreLinesBy e p g → IsLastFit g → has_key key g ≡ true
      → IsFitChange e (change first g)) → (cs : List Change) → at_last key change true gs ≡ Some cs → (other : List ℕ)
      → AreSlotsOf e (planned_or (at_last key change true (held_groups_of e body)) other (held_groups_of e body)) (groups_after e cs gs)
  slots-last fit cs q other =
      rw (last-held, q) (slots-planned e body gs cs (merged_plan cs gs) ok s (last-plan e key change same fit true gs cs s.turn q) refl)
