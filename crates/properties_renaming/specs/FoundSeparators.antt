-- How separators among comment lines are found, as one group after another is passed.
use Rattle.std.specs.Prelude.{◌≡◌, ◌&&◌, ◌==◌, ℕ, Bool, true, false, not, List, [], ◌∷◌, ◌++◌}
use Rattle.properties_format.specs.Separators.{ends_separated, last_sign, sign_of}
use Rattle.properties_renaming.specs.declared.separators.LastRun.{LastRun}

-- This is the run in which these comment lines end.
abbrev pub IsRunOf : List (List ℕ) → LastRun → Type 0
IsRunOf lines last = (last.sign ≡ last_sign lines) × (last.separates ≡ ends_separated lines [])

-- A comment line was passed, and found is whether a separator with another sign is directly above it; or another group,
-- and found is whether a separator is.
abbrev pub PassesGroup : Bool → List ℕ → LastRun → Bool → LastRun → Type 0
PassesGroup true x old found new =
    (lines : List (List ℕ)) → IsRunOf lines old
    → IsRunOf (lines ++ x ∷ []) new × (found ≡ (not (sign_of x == last_sign lines) && ends_separated lines []))
PassesGroup false x old found new = IsRunOf [] new × ((lines : List (List ℕ)) → IsRunOf lines old → found ≡ ends_separated lines [])
