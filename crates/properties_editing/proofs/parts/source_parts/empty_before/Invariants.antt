use Rattle.std.proofs.Common.{◌≤◌}
use Rattle.properties_editing.specs.Private.PartBounds.{AreEmpty}
use Rattle.properties_editing.proofs.parts.source_parts.empty_before.Given as goal

abbrev pub invariant-loop-place : goal.invariant-loop-place
invariant-loop-place l = (l.place ≤ l.end) × AreEmpty l.place l.end l.parts.items

abbrev pub decreases-loop-place : goal.decreases-loop-place
decreases-loop-place l = l.place
