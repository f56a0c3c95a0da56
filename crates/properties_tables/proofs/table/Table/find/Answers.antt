use Rattle.std.proofs.Common.{subst, sym}
use Rattle.std.specs.Str.{chars}
use Rattle.properties_tables.specs.Private.Table.{FindsKey}
use Rattle.properties_tables.proofs.Tables.{keys-rows}
use Rattle.properties_tables.proofs.table.Table.find.Goals as goal

pub returns : goal.returns
returns c = subst (λ v. FindsKey (chars c.args.key.now) v c.find.result) (sym (keys-rows c.args.self.now c.requires)) c.find.ensures
