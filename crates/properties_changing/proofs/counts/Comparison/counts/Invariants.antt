use Rattle.std.proofs.Common.{◌≡◌, ◌≤◌, take}
use Rattle.std.specs.Prelude.{count_by}
use Rattle.properties_changing.specs.Private.Counting.{has_changed, is_gone}
use Rattle.properties_changing.proofs.counts.Comparison.counts.Given as goal

abbrev pub invariant-loop-state : goal.invariant-loop-state
invariant-loop-state l = record {
  few_changed : l.changed ≤ l.state-index;
  few_removed : l.removed ≤ l.state-index;
  changed : l.changed ≡ count_by has_changed (take l.state-index l.self.states.items);
  removed : l.removed ≡ count_by is_gone (take l.state-index l.self.states.items);
}
