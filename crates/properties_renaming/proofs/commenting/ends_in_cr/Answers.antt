use Rattle.std.proofs.Common.{◌∙◌, sym}
use Rattle.properties_editing.proofs.PartEndings.{last-cr}
use Rattle.properties_renaming.proofs.commenting.ends_in_cr.Goals as goal

pub returns : goal.returns
returns c = last-cr c.args.bytes.now (sym c.is_empty.ensures ∙ c.if-is_empty.false)
