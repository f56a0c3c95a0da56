use Rattle.std.proofs.Common.{◌∙◌}
use Rattle.properties_items.proofs.TextMaps.Values.{same-characters}
use Rattle.java_properties.proofs.comments.is_same.Goals as goal

pub returns : goal.returns
returns c = c.eq.ensures ∙ same-characters c.args.found.now c.args.key.now c.utf8.found c.utf8.key
