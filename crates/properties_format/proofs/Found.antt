-- What is found in an input exists and is unique.
use Rattle.std.proofs.Common.{◌≡◌, ℕ, List, [], ◌∷◌, ◌++◌, refl, ap, ap₂, ◌∙◌}
use Rattle.properties_format.specs.Encoding.{Encoding}
use Rattle.properties_format.specs.Lines.{InputEnd, Line, HasGroups, joined, first_number}
use Rattle.properties_format.specs.Computed.Lines.{groups_in}
use Rattle.properties_format.specs.Items.{Outcome}
use Rattle.properties_format.specs.Computed.Items.{outcome_of}
use Rattle.properties_format.specs.Found.{AreFoundIn, AreFound}
use Rattle.properties_format.specs.Computed.Found.{found_in}
use Rattle.properties_format.proofs.Groups.Input.{groups_in-meets, groups_in-only}
use Rattle.properties_format.proofs.Items.Unique.{outcome_of-meets, outcome_of-only}

module _ {A : Type 0} (before : ℕ → List ℕ → Outcome → List A → List A) where
  -- It is found in the groups.
  found_in-meets : (gs : List (List Line)) → AreFoundIn before gs (found_in before gs)
  found_in-meets [] = refl
  found_in-meets (g ∷ gs) = (outcome_of (joined g), found_in before gs, outcome_of-meets (joined g), refl, found_in-meets gs)

  -- Nothing else is.
  found_in-only : (gs : List (List Line)) (found : List A) → AreFoundIn before gs found → found ≡ found_in before gs
  found_in-only [] found h = h
  found_in-only (g ∷ gs) found (outcome, rest, is, same, others) =
      same ∙ ap₂ (λ v w. before (first_number g) (joined g) v w) (outcome_of-only (joined g) outcome is) (found_in-only gs rest others)

  -- What is found in the groups of an input is found in the input.
  pub found-in_groups : {e : Encoding} {bytes : List ℕ} {ending : InputEnd} {gs : List (List Line)} → HasGroups e bytes ending gs
      → AreFound before e bytes ending (found_in before gs)
  found-in_groups {gs = gs} h = record { groups = gs; has_groups = h; are_found = found_in-meets gs }

  pub found-meets : (e : Encoding) (bytes : List ℕ) (ending : InputEnd) → AreFound before e bytes ending (found_in before (groups_in e bytes ending))
  found-meets e bytes ending = found-in_groups (groups_in-meets e bytes ending)

  -- Nothing else is.
  pub found-only : (e : Encoding) (bytes : List ℕ) (ending : InputEnd) (found : List A) → AreFound before e bytes ending found
      → found ≡ found_in before (groups_in e bytes ending)
  found-only e bytes ending found h = found_in-only h.groups found h.are_found ∙ ap (found_in before) (groups_in-only e bytes ending h.groups h.has_groups)

  -- What is found in groups after others comes last, if that holds for each logical line.
  pub found_in-append : ((n : ℕ) (x : List ℕ) (o : Outcome) (xs ys : List A) → before n x o (xs ++ ys) ≡ before n x o xs ++ ys)
      → (gs hs : List (List Line)) → found_in before (gs ++ hs) ≡ found_in before gs ++ found_in before hs
  found_in-append last [] hs = refl
  found_in-append last (g ∷ gs) hs =
      ap (before (first_number g) (joined g) (outcome_of (joined g))) (found_in-append last gs hs)
      ∙ last (first_number g) (joined g) (outcome_of (joined g)) (found_in before gs) (found_in before hs)
