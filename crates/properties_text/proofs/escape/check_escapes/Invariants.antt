use Rattle.std.proofs.Common.{length}
use Rattle.properties_text.proofs.SpeltTexts.Searches.{IsReadTo}
use Rattle.properties_text.proofs.escape.check_escapes.Given as goal

abbrev pub invariant-loop-at : goal.invariant-loop-at
invariant-loop-at l = IsReadTo l.encoding l.text l.rest

abbrev pub decreases-loop-at : goal.decreases-loop-at
decreases-loop-at l = length l.rest
