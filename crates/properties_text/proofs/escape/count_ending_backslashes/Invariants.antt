use Rattle.std.proofs.Common.{◌≤◌, length}
use Rattle.properties_text.proofs.Texts.Backslashes.{IsCounted}
use Rattle.properties_text.proofs.escape.count_ending_backslashes.Given as goal

abbrev pub invariant-loop-start : goal.invariant-loop-start
invariant-loop-start l = record { within : l.start ≤ length l.bytes; counted : IsCounted l.bytes l.start }

abbrev pub decreases-loop-start : goal.decreases-loop-start
decreases-loop-start l = l.start
