use Rattle.std.proofs.Common.{◌≤◌, length}
use Rattle.properties_editing.specs.Private.PartBounds.{HaveNoPair}
use Rattle.properties_editing.proofs.parts.source_parts.narrowed.Given as goal

abbrev pub invariant-loop-pairs : goal.invariant-loop-pairs
invariant-loop-pairs l = (l.pairs ≤ l.end) × (l.end ≤ length l.parts.items) × HaveNoPair l.pairs l.end l.parts.items

abbrev pub decreases-loop-pairs : goal.decreases-loop-pairs
decreases-loop-pairs l = l.pairs
