use Rattle.std.proofs.Common.{◌<◌, ◌∙◌, ap, arith, length, sym}
use Rattle.std.specs.Str.{chars}
use Rattle.std.proofs.{lemmas.List.get_or-map, lemmas.Slice.Eq.bytes_eq-Decides}
use Rattle.properties_tables.specs.Private.Table.{rows_of}
use Rattle.properties_changing.proofs.Counting.{keys-length, no_row}
use Rattle.properties_changing.proofs.counts.find_near.Goals as goal

pub returns-then-eq : goal.returns-then-eq
returns-then-eq c =
    let rows = rows_of c.args.table.now in
    let size = c.len.ensures in
    let below : c.args.row < length rows = omega arith in
    let same = (bytes_eq-Decides c.key.result.now c.args.key.now).0 (sym c.eq.ensures ∙ c.if-eq.true) in (
      (let l = keys-length rows in omega arith),
      λ d. get_or-map (λ r. r.key) rows c.args.row no_row d below ∙ sym (c.key.ensures no_row) ∙ ap chars same,
    )
