use Rattle.std.proofs.Common.{◌≤◌, drop, length}
use Rattle.properties_format.specs.Lines.{HoldsNoLineEnding}
use Rattle.properties_renaming.proofs.commenting.last_ending.Given as goal

abbrev pub invariant-loop-end : goal.invariant-loop-end
invariant-loop-end l = record {
  within : l.end ≤ length l.body;
  plain : HoldsNoLineEnding (drop l.end l.body);
}

abbrev pub decreases-loop-end : goal.decreases-loop-end
decreases-loop-end l = l.end
