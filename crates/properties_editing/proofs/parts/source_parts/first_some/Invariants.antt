use Rattle.std.proofs.Common.{◌≡◌, ◌≤◌, ◌+◌, ◌-◌, drop, length}
use Rattle.properties_editing.specs.Private.SourceParts.{empty_front}
use Rattle.properties_editing.proofs.parts.source_parts.first_some.Given as goal

abbrev pub invariant-loop-place : goal.invariant-loop-place
invariant-loop-place l = (l.place ≤ length l.parts.items) × (empty_front l.parts.items ≡ l.place + empty_front (drop l.place l.parts.items))

abbrev pub decreases-loop-place : goal.decreases-loop-place
decreases-loop-place l = length l.parts.items - l.place
