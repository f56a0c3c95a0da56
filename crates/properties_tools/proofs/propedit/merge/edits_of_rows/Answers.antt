use Rattle.std.proofs.Common.{◌<◌, [], ◌∷◌, ◌++◌, get_or, length, map, take, ap, sym, ◌∙◌, arith}
use Rattle.std.specs.Str.{chars}
use Rattle.std.proofs.lemmas.List.{map_more}
use Rattle.properties_format.specs.Edits.{set_value}
use Rattle.properties_tables.specs.Private.Table.{rows_of}
use Rattle.properties_tools.specs.Propedit.Merge.{set_of}
use Rattle.properties_tables.specs.Table.{Row}
use Rattle.properties_tools.proofs.propedit.merge.edits_of_rows.Goals as goal

pub loop-row-preserved : goal.loop-row-preserved
loop-row-preserved c =
    let rows = rows_of c.args.table.now in
    let i = c.loop-row.row in
    let key = chars c.key.result.now in
    let value = chars c.value.result.now in
    let d : Row = record { key = key; first = 0; last = 0; value = value } in
    let below : i < length rows = omega (arith, c.len-row-end.ensures) in
    let same = ap (λ k. set_value k value) (c.key.ensures d) ∙ ap (λ v. set_value (get_or rows i d).key v) (c.value.ensures d) in
    c.in_ok-push.ensures ∙ ap (λ v. v ++ set_value key value ∷ []) c.loop-row.invariant
    ∙ ap (λ v. map set_of (take i rows) ++ v ∷ []) same ∙ sym (map_more set_of rows i d below)
