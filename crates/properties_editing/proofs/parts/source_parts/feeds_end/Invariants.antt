use Rattle.std.proofs.Common.{◌≤◌, length}
use Rattle.properties_editing.specs.Private.PartBounds.{ArePlainFrom}
use Rattle.properties_editing.proofs.parts.source_parts.feeds_end.Given as goal

abbrev pub invariant-loop-place : goal.invariant-loop-place
invariant-loop-place l = (l.place ≤ length l.parts.items) × ArePlainFrom l.body l.place l.parts.items

abbrev pub decreases-loop-place : goal.decreases-loop-place
decreases-loop-place l = l.place
