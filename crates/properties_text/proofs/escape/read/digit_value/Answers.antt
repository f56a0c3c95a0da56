use Rattle.properties_text.proofs.Texts.Units.{digit-small}
use Rattle.properties_text.proofs.escape.read.digit_value.Goals as goal

pub returns-clause-small : goal.returns-clause-small
returns-clause-small c = rw c.from.ensures (digit-small c.args.byte c.ranges.byte.fits)
