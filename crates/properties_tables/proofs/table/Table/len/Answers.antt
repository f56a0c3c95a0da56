use Rattle.std.proofs.Common.{arith}
use Rattle.properties_tables.proofs.Tables.{length-rows}
use Rattle.properties_tables.proofs.table.Table.len.Goals as goal

pub returns : goal.returns
returns c = let r = length-rows c.args.self.now c.requires in omega arith
