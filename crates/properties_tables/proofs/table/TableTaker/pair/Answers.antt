use Rattle.std.specs.Str.{chars}
use Rattle.properties_tables.proofs.Tables.{took-pair}
use Rattle.properties_tables.proofs.table.TableTaker.pair.Goals as goal

pub put-requires : goal.put-requires
put-requires c = c.requires.2.table

pub returns : goal.returns
returns c =
    took-pair c.args.self.now c.put.new.self c.args.line_number (chars c.args.key.now) (chars c.args.value.now) _ c.in_ok-put.ensures.puts
    c.in_ok-put.ensures.table
