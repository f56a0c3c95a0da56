-- Groups of parts stay sound: after an edit, no pair is malformed.
use Rattle.std.proofs.Common.{◌≡◌, ℕ, true, List, [], ◌∷◌, ◌++◌, Option, Some, sym, subst, inl, inr}
use Rattle.std.proofs.lemmas.Bool.{cases_Bool}
use Rattle.properties_format.specs.Text.{LineEnding, lf}
use Rattle.properties_format.specs.Encoding.{Encoding}
use Rattle.properties_format.specs.Items.{Outcome, broken, given, ignored}
use Rattle.properties_format.specs.Items as content
use Rattle.properties_format.specs.Lines.{joined}
use Rattle.properties_format.specs.Body.{HeldLine, as_lines}
use Rattle.properties_format.specs.Edited.{is_editable, is_empty_line}
use Rattle.properties_format.specs.Computed.Body.{has_key}
use Rattle.properties_format.specs.Computed.Edited.{IsSoundOutcome}
use Rattle.properties_format.proofs.Body.Decoded.{decoded-nil}
use Rattle.properties_format.proofs.Edited.Fronts.{outcome-empty}
use Rattle.properties_format.proofs.GroupsInTurn.Merged.{AreInTurn, are_one_ending}
use Rattle.properties_format.proofs.Plan.Slots.{group_of, no_line}
use Rattle.properties_format.proofs.Plan.Added.{all_closed, blank, groups_added}
use Rattle.properties_items.specs.BorrowedItems.{outcome_pair}
use Rattle.properties_editing.specs.Private.Sound.{AreSound, IsSoundFor}
use Rattle.properties_editing.specs.declared.source.Comments.TheVariants.{PassedOver}
use Rattle.properties_editing.proofs.PassedOver.{sound-join}
use Rattle.properties_editing.proofs.PartsChanged.{group-closed, IsPairText, new-said}
use Rattle.properties_editing.proofs.PartsRemoved.{left_of}

pub empty-sound : (e : Encoding) → IsSoundFor PassedOver (joined (as_lines (no_line e ∷ [])))
empty-sound e = inl (rw (decoded-nil e) (subst IsSoundOutcome (sym outcome-empty) tt))

pair-sound : (o : Outcome) (key value : List ℕ) → outcome_pair o ≡ Some (key, value) → IsSoundOutcome o
pair-sound ignored key value q = absurd (cc)
pair-sound (given (content.comment t)) key value q = absurd (cc)
pair-sound (given (content.pair k v)) key value q = tt
pair-sound (broken why) key value q = absurd (cc)

-- A removal leaves them sound,
pub sound-left : (e : Encoding) (key : List ℕ) (gs : List (List HeldLine)) → AreSound gs → AreSound (left_of e key gs)
sound-left e key [] s = tt
sound-left e key (g ∷ []) s = elim (cases_Bool (has_key key g)) [
  | inl k ↦ rw k (empty-sound e, tt)
  | inr k ↦ rw k (s.0, tt)
]
sound-left e key (g ∷ h ∷ gs) s = elim (cases_Bool (has_key key g)) [
  | inl k ↦ elim (cases_Bool (are_one_ending g h)) [
    | inl q ↦ rw (k, q) (sound-left e key gs s.1.1)
    | inr q ↦ rw (k, q) (sound-left e key (h ∷ gs) s.1)
  ]
  | inr k ↦ rw k (s.0, sound-left e key (h ∷ gs) s.1)
]

-- another pair in the place of one does,
pub sound-changed : (e : Encoding) → is_editable e ≡ true → (key value x : List ℕ) → IsPairText e key value x → (o : Option LineEnding)
    → (xs : List (List HeldLine)) (g : List HeldLine) (ys : List (List HeldLine)) → AreSound (xs ++ g ∷ ys) → AreSound (xs ++ group_of e x o ∷ ys)
sound-changed e ok key value x t o [] g ys s = (inl (pair-sound _ key value (new-said e ok key value x t o)), s.1)
sound-changed e ok key value x t o (y ∷ xs) g ys s = (s.0, sound-changed e ok key value x t o xs g ys s.1)

sound-closed : (e : Encoding) (by : LineEnding) (gs : List (List HeldLine)) → AreInTurn e gs → AreSound gs → AreSound (all_closed e by gs)
sound-closed e by [] a s = absurd a
sound-closed e by (g ∷ []) a s = elim (cases_Bool (is_empty_line g)) [
  | inl k ↦ rw k tt
  | inr k ↦ let h = group-closed e by g a k in subst AreSound (sym h.1.is_last) (subst (IsSoundFor PassedOver) (sym h.1.text) s.0, tt)
]
sound-closed e by (g ∷ h ∷ gs) a s = (s.0, sound-closed e by (h ∷ gs) a.1 s.1)

-- and so does a pair behind them.
pub sound-added : (e : Encoding) → is_editable e ≡ true → (key value x : List ℕ) → IsPairText e key value x → (by ending : LineEnding) (gs : List (List HeldLine))
    → AreInTurn e gs → AreSound gs → AreSound (groups_added e by x ending gs)
sound-added e ok key value x t by ending gs a s =
    sound-join PassedOver (all_closed e by gs) (group_of e x (Some ending) ∷ (no_line e ∷ []) ∷ []) (sound-closed e by gs a s)
    (inl (pair-sound _ key value (new-said e ok key value x t (Some ending))), (empty-sound e, tt))

-- The LF that guards them is sound.
pub sound-guarded : (e : Encoding) (gs : List (List HeldLine)) → AreSound gs → AreSound ((blank e lf ∷ []) ∷ gs)
sound-guarded e gs s = (empty-sound e, s)
