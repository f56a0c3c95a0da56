use Rattle.std.proofs.Common.{length, ◌-◌}
use Rattle.properties_text.proofs.SpeltTexts.FirstMalformed.{HasSpelt}
use Rattle.properties_text.proofs.escape.first_malformed.Given as goal

abbrev pub invariant-loop-next : goal.invariant-loop-next
invariant-loop-next l = HasSpelt l.encoding l.text l.at

abbrev pub decreases-loop-next : goal.decreases-loop-next
decreases-loop-next l = length l.text - l.at
