use Rattle.std.proofs.Common.{◌∙◌, sym}
use Rattle.properties_renaming.proofs.NewComments.{ending-none, ending-some, held-at}
use Rattle.properties_renaming.proofs.commenting.ending_or.Goals as goal

pub returns-then-is_empty : goal.returns-then-is_empty
returns-then-is_empty c = λ g h. ending-none c.args.other.now g _ (held-at h).ending (sym c.is_empty.ensures ∙ c.if-is_empty.true)

pub returns-else-is_empty : goal.returns-else-is_empty
returns-else-is_empty c = λ g h. ending-some c.args.other.now g _ (held-at h).ending (sym c.is_empty.ensures ∙ c.if-is_empty.false)
