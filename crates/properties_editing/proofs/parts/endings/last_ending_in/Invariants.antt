use Rattle.std.proofs.Common.{◌≤◌, drop, length}
use Rattle.properties_format.specs.Lines.{HoldsNoLineEnding}
use Rattle.properties_editing.proofs.parts.endings.last_ending_in.Given as goal

abbrev pub invariant-loop-end : goal.invariant-loop-end
invariant-loop-end l = record {
  within : l.end ≤ length l.bytes;
  plain : HoldsNoLineEnding (drop l.end l.bytes);
}

abbrev pub decreases-loop-end : goal.decreases-loop-end
decreases-loop-end l = l.end
