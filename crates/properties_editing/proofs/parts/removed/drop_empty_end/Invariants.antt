use Rattle.std.proofs.Common.{◌≡◌, ◌≤◌, take, length}
use Rattle.properties_editing.specs.Private.RemovedParts.{without_empty_end}
use Rattle.properties_editing.proofs.parts.removed.drop_empty_end.Given as goal

abbrev pub invariant-loop-size : goal.invariant-loop-size
invariant-loop-size l = (l.size ≤ length l.parts.items) × (without_empty_end l.parts.items ≡ without_empty_end (take l.size l.parts.items))

abbrev pub decreases-loop-size : goal.decreases-loop-size
decreases-loop-size l = l.size
