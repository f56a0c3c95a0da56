-- The logical lines of groups, in order.
use Rattle.std.proofs.Common.{◌≡◌, ℕ, List, [], ◌∷◌, ap}
use Rattle.properties_format.specs.Lines.{Line, joined}
use Rattle.properties_format.specs.Items.{ignored}
use Rattle.properties_format.specs.Changed.{line_before, AreLinesOf}
use Rattle.properties_format.specs.Computed.Items.{outcome_of, split_outcome}
use Rattle.properties_format.proofs.Items.Unique.{outcome_of-only}
use Rattle.properties_format.proofs.Split.Unique.{split_of-blank}

-- ---- the logical lines of groups

-- a logical line before others, unless it is blank
abbrev pub with_line : List ℕ → List (List ℕ) → List (List ℕ)
with_line x xs = line_before (outcome_of x) x xs

-- the logical lines of the groups, in order
abbrev pub logical_lines : List (List Line) → List (List ℕ)
logical_lines [] = []
logical_lines (g ∷ gs) = with_line (joined g) (logical_lines gs)

pub logical_lines-only : (gs : List (List Line)) (xs : List (List ℕ)) → AreLinesOf gs xs → xs ≡ logical_lines gs
logical_lines-only [] xs h = h
logical_lines-only (g ∷ gs) xs h = rw (h.3, outcome_of-only (joined g) h.0 h.2, logical_lines-only gs h.1 h.4)

-- An empty line has no outcome.
pub outcome-empty : outcome_of [] ≡ ignored
outcome-empty = ap split_outcome (split_of-blank [] tt)
