-- The last pair with a key: where it is, and the plan that changes it.
use Rattle.std.proofs.Common.{◌≡◌, ◌≢◌, ℕ, Bool, true, false, List, [], ◌∷◌, ◌++◌, Option, Some, None, refl, ap, sym, ◌∙◌, inl, inr, append_assoc}
use Rattle.std.proofs.lemmas.Bool.{cases_Bool}
use Rattle.properties_format.specs.Text.{is_empty}
use Rattle.properties_format.specs.Encoding.{Encoding}
use Rattle.properties_format.specs.Body.{HeldLine, HasKey, NoneHasKey, ending_bytes, group_bytes, groups_bytes, last_ending}
use Rattle.properties_format.specs.Plan.{Change, stay, go, become, planned, at_last, all_stay, this_or_later}
use Rattle.properties_format.specs.Computed.Body.{has_key}
use Rattle.properties_format.proofs.Edited.Made.{has_key-true, has_key-false, HasKey-test, no_key-test}
use Rattle.properties_format.proofs.GroupsInTurn.Lines.{lines-some}
use Rattle.properties_format.proofs.GroupsInTurn.Merged.{AreInTurn}

-- whether a group behind these is the first of its body
abbrev pub first_behind : Bool → List (List HeldLine) → Bool
first_behind first [] = first
first_behind first (g ∷ gs) = false

-- no group behind others is
pub behind-others : (gs : List (List HeldLine)) → first_behind false gs ≡ false
behind-others [] = refl
behind-others (g ∷ gs) = refl

-- Groups before another have bytes, so only the first one is at the front.
pub front-bytes : (e : Encoding) (before : List (List HeldLine)) (g : List HeldLine) (after : List (List HeldLine)) → AreInTurn e (before ++ g ∷ after)
    → first_behind true before ≡ is_empty (groups_bytes before)
front-bytes e [] g after a = refl
front-bytes e (f ∷ before) g after a = some (group_bytes f) (groups_bytes before) (of-turn before a)
  where
    of-turn : (before : List (List HeldLine)) → AreInTurn e (f ∷ before ++ g ∷ after) → group_bytes f ≢ []
    of-turn [] a = lines-some e a.0.0 f a.0.1
    of-turn (h ∷ before) a = lines-some e a.0.0 f a.0.1

    some : (x y : List ℕ) → x ≢ [] → false ≡ is_empty (x ++ y)
    some [] y n = absurd (n refl)
    some (c ∷ x) y n = refl

-- ---- where it is

-- The plan changes the last pair with the key, which is here.
pub record IsLastPlan (key : List ℕ) (change : Bool → List HeldLine → Change) (first : Bool) (gs : List (List HeldLine)) (cs : List Change) : Type 0 where
  pub before : List (List HeldLine)
  pub group : List HeldLine
  pub after : List (List HeldLine)
  pub division : gs ≡ before ++ group ∷ after
  pub has : HasKey key group
  pub no_later : NoneHasKey key after
  pub plan : cs ≡ all_stay before ++ change (first_behind first before) group ∷ all_stay after

-- If there is no plan, no pair has the key.
abbrev pub IsPlanOf : List ℕ → (Bool → List HeldLine → Change) → Bool → List (List HeldLine) → Option (List Change) → Type 0
IsPlanOf key change first gs None = NoneHasKey key gs
IsPlanOf key change first gs (Some cs) = IsLastPlan key change first gs cs

module _ (key : List ℕ) (change : Bool → List HeldLine → Change) where
  -- One more group in front.
  plan-next : (first : Bool) (g : List HeldLine) (gs : List (List HeldLine)) (o : Option (List Change)) → at_last key change false gs ≡ o
      → IsPlanOf key change false gs o → IsPlanOf key change first (g ∷ gs) (at_last key change first (g ∷ gs))
  plan-next first g gs (Some cs) s m =
      rw s (record {
        before = g ∷ m.before;
        group = m.group;
        after = m.after;
        division = ap (λ v. g ∷ v) m.division;
        has = m.has;
        no_later = m.no_later;
        plan = rw (m.plan, behind-others m.before) refl;
      })
  plan-next first g gs None s m = elim (cases_Bool (has_key key g)) [
    | inl h ↦
        rw (s, h) (record { before = []; group = g; after = gs; division = refl; has = has_key-true key g h; no_later = m; plan = refl })
    | inr h ↦ rw (s, h) (has_key-false key g h, m)
  ]

  pub at_last-meets : (first : Bool) (gs : List (List HeldLine)) → IsPlanOf key change first gs (at_last key change first gs)
  at_last-meets first [] = tt
  at_last-meets first (g ∷ gs) = plan-next first g gs (at_last key change false gs) refl (at_last-meets false gs)

  -- If no group has the key, there is no plan.
  pub at_last-none : (first : Bool) (gs : List (List HeldLine)) → NoneHasKey key gs → at_last key change first gs ≡ None
  at_last-none first [] h = refl
  at_last-none first (g ∷ gs) h = rw (at_last-none false gs h.1, no_key-test key g h.0) refl

  -- A group with the key behind which none has it is changed.
  pub at_last-some : (first : Bool) (before : List (List HeldLine)) (g : List HeldLine) (after : List (List HeldLine)) → HasKey key g → NoneHasKey key after
      → at_last key change first (before ++ g ∷ after) ≡ Some (all_stay before ++ change (first_behind first before) g ∷ all_stay after)
  at_last-some first [] g after h k = rw (at_last-none false after k, HasKey-test key g h) refl
  at_last-some first (f ∷ before) g after h k =
      ap (λ v. this_or_later v (has_key key f) (change first f) (before ++ g ∷ after)) (at_last-some false before g after h k)
      ∙ ap (λ b. Some (stay ∷ (all_stay before ++ change b g ∷ all_stay after))) (behind-others before)

-- ---- what the plan makes

-- Groups that stay have their bytes.
pub all-stay : (gs : List (List HeldLine)) → planned (all_stay gs) gs ≡ groups_bytes gs
all-stay [] = refl
all-stay (g ∷ gs) = ap (λ v. group_bytes g ++ v) (all-stay gs)

-- So it makes no difference whether those behind are in the plan.
stay-behind : (c : Change) (g : List HeldLine) (gs : List (List HeldLine)) → planned (c ∷ all_stay gs) (g ∷ gs) ≡ planned (c ∷ []) (g ∷ gs)
stay-behind stay g gs = ap (λ v. group_bytes g ++ v) (all-stay gs)
stay-behind go g gs = all-stay gs
stay-behind (become x) g gs = ap (λ v. x ++ (ending_bytes (last_ending g) ++ v)) (all-stay gs)

pub planned-at : (c : Change) (before : List (List HeldLine)) (g : List HeldLine) (after : List (List HeldLine))
    → planned (all_stay before ++ c ∷ all_stay after) (before ++ g ∷ after) ≡ groups_bytes before ++ planned (c ∷ []) (g ∷ after)
planned-at c [] g after = stay-behind c g after
planned-at c (f ∷ before) g after = ap (λ v. group_bytes f ++ v) (planned-at c before g after) ∙ sym (append_assoc (group_bytes f) (groups_bytes before) _)
