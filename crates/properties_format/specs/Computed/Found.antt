-- What is found in groups, computed group by group.
use Rattle.std.specs.Prelude.{ℕ, List, [], ◌∷◌}
use Rattle.properties_format.specs.Lines.{Line, joined, first_number}
use Rattle.properties_format.specs.Items.{Outcome}
use Rattle.properties_format.specs.Computed.Items.{outcome_of}
use Rattle.properties_format.specs.Found.{MalformedEscape, escapes_from}

-- what is found in the groups
abbrev pub found_in : {A : Type 0} → (ℕ → List ℕ → Outcome → List A → List A) → List (List Line) → List A
found_in before [] = []
found_in before (group ∷ groups) = before (first_number group) (joined group) (outcome_of (joined group)) (found_in before groups)

-- the malformed escapes of the groups
abbrev pub escapes_in : List (List Line) → List MalformedEscape
escapes_in groups = found_in escapes_from groups
