use Rattle.std.proofs.Common.{◌∙◌, ap, arith, sym}
use Rattle.properties_tables.specs.{Table.Row, declared.table.LastPair.LastPair}
use Rattle.properties_tables.proofs.Tables.{length-rows, row-at}
use Rattle.properties_tables.proofs.table.Table.last_line.Goals as goal

pub index-requires : goal.index-requires
index-requires c = let l = length-rows c.args.self.now c.requires.table in omega (arith, c.requires.within)

pub returns : goal.returns
returns c = λ d.
    ap (λ (l : LastPair). l.line) c.index.ensures
    ∙ sym (ap (λ (r : Row). r.last) (row-at c.args.self.now c.requires.table c.args.row d c.index.result.now c.requires.within))
