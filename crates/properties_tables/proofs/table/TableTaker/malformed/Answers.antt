use Rattle.std.specs.Str.{chars}
use Rattle.properties_tables.proofs.Tables.{took-escape}
use Rattle.properties_tables.proofs.table.TableTaker.malformed.Goals as goal

pub returns : goal.returns
returns c = took-escape c.args.self.now c.args._escape (chars c.args._line.now)
