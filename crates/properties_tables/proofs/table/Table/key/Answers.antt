use Rattle.std.proofs.Common.{◌∙◌, ap, sym}
use Rattle.properties_tables.specs.Table.{Row}
use Rattle.properties_tables.proofs.{KeyTables.none, Tables.below-places, Tables.no_last, Tables.row-at}
use Rattle.properties_tables.proofs.table.Table.key.Goals as goal

pub key-requires-clause-within : goal.key-requires-clause-within
key-requires-clause-within c = below-places c.args.self.now c.requires.table c.args.row c.requires.within

pub returns : goal.returns
returns c = λ d. c.key.ensures none ∙ sym (ap (λ (r : Row). r.key) (row-at c.args.self.now c.requires.table c.args.row d no_last c.requires.within))
