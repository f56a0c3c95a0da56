use Rattle.std.proofs.Common.{refl}
use Rattle.std.specs.Str.{chars}
use Rattle.properties_tables.proofs.SoughtKeys.{took-escape}
use Rattle.properties_tables.proofs.values.SoughtTaker.malformed.Goals as goal

pub returns : goal.returns
returns c = took-escape c.args.self.now _ c.args.escape (chars c.args._line.now) refl refl c.first_of-self.ensures
