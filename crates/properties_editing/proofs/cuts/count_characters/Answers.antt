use Rattle.properties_editing.proofs.BodyCuts.{count-text}
use Rattle.properties_editing.proofs.cuts.count_characters.Goals as goal

pub returns-clause-count : goal.returns-clause-count
returns-clause-count c = count-text c.args.text.now c.pass_characters.result.count c.requires c.pass_characters.ensures.count
