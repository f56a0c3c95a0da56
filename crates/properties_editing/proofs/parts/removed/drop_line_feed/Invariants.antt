use Rattle.std.proofs.Common.{◌≤◌, ◌-◌, length}
use Rattle.properties_editing.specs.Private.PartBounds.{AreEmpty}
use Rattle.properties_editing.proofs.parts.removed.drop_line_feed.Given as goal

abbrev pub invariant-loop-place : goal.invariant-loop-place
invariant-loop-place l = (l.from ≤ l.place) × (l.place ≤ length l.parts.items) × AreEmpty l.from l.place l.parts.items

abbrev pub decreases-loop-place : goal.decreases-loop-place
decreases-loop-place l = length l.parts.items - l.place
