use Rattle.std.proofs.{Common.arith, lemmas.Bool.Decides.nat_tests}
use Rattle.properties_c.proofs.OneReading.{edit-one, list-read}
use Rattle.properties_c.proofs.lists.edits_of.Goals as goal

pub returns : goal.returns
returns c = list-read _ edit-one c.loop-rest.rest.now (grind (arith, nat_tests)) c.loop-rest.invariant
