use Rattle.std.proofs.Common.{◌≡◌, length}
use Rattle.properties_tables.specs.Lines.{holds_mark}
use Rattle.properties_tables.proofs.ill_formed.holds_mark.Given as goal

abbrev pub invariant-loop-at : goal.invariant-loop-at
invariant-loop-at l = holds_mark l.bytes ≡ holds_mark l.rest

abbrev pub decreases-loop-at : goal.decreases-loop-at
decreases-loop-at l = length l.rest
