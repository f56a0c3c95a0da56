use Rattle.std.proofs.Common.{◌+◌, ◌-◌, ◌≤◌, false, length}
use Rattle.properties_text.proofs.Scanning.{IsCutSoFar}
use Rattle.properties_text.proofs.parse.key_length.Given as goal

abbrev pub invariant-loop-at : goal.invariant-loop-at
invariant-loop-at l = record { within : l.at ≤ length l.text + 1; cut : IsCutSoFar l.text l.at false }

abbrev pub decreases-loop-at : goal.decreases-loop-at
decreases-loop-at l = length l.text + 1 - l.at
