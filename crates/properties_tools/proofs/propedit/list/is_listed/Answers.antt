use Rattle.std.proofs.lemmas.Str.Pattern.{starts_text}
use Rattle.properties_tools.proofs.Prefixes.{starts-chars}
use Rattle.properties_tools.proofs.propedit.list.is_listed.Goals as goal

pub returns : goal.returns
returns c =
    starts-chars c.starts_with.result c.args.key.now c.args.prefix.now c.utf8.key c.utf8.prefix
    (starts_text c.starts_with.result c.args.prefix.now c.args.key.now c.starts_with.ensures.cases)
