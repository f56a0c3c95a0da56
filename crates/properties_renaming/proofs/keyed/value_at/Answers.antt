use Rattle.std.proofs.Common.{◌∙◌, sym}
use Rattle.properties_items.proofs.TextMaps.Values.{at_chars-sorted}
use Rattle.properties_renaming.proofs.keyed.value_at.Goals as goal

pub returns : goal.returns
returns g c = c.copied.ensures ∙ c.get.ensures.value ∙ sym (at_chars-sorted c.args.values.now c.args.key.now c.utf8.key)
