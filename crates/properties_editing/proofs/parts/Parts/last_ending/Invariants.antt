use Rattle.std.proofs.Common.{◌≤◌, drop, length}
use Rattle.properties_format.specs.Lines.{HoldsNoLineEnding}
use Rattle.properties_editing.specs.Private.BodyParts.{parts_bytes}
use Rattle.properties_editing.proofs.parts.Parts.last_ending.Given as goal

abbrev pub invariant-loop-place : goal.invariant-loop-place
invariant-loop-place l = record {
  within : l.place ≤ length l.self.parts.items;
  plain : HoldsNoLineEnding (parts_bytes l.body (drop l.place l.self.parts.items));
}

abbrev pub decreases-loop-place : goal.decreases-loop-place
decreases-loop-place l = l.place
