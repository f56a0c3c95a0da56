use Rattle.properties_renaming.proofs.NewComments.{blank-none, blank-some}
use Rattle.properties_renaming.proofs.commenting.first_blank.Goals as goal

pub returns-then-leading_blanks-eq0 : goal.returns-then-leading_blanks-eq0
returns-then-leading_blanks-eq0 c = blank-none c.args.bytes.now c.leading_blanks.result c.if-leading_blanks-eq0.true c.leading_blanks.ensures.rest

pub returns : goal.returns
returns c = (blank-some c.args.bytes.now c.leading_blanks.result c.if-leading_blanks-eq0.false c.leading_blanks.ensures.within c.leading_blanks.ensures.rest).1
