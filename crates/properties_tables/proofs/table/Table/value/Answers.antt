use Rattle.std.proofs.Common.{◌∙◌, ap, arith, subst, sym}
use Rattle.std.specs.Str.{chars}
use Rattle.properties_tables.specs.{Private.Table.bytes_at, Private.Table.HoldsText, Table.Row, declared.table.LastPair.LastPair}
use Rattle.properties_tables.proofs.Tables.{length-rows, row-at}
use Rattle.properties_tables.proofs.table.Table.value.Goals as goal

pub index-requires : goal.index-requires
index-requires c = let l = length-rows c.args.self.now c.requires.table in omega (arith, c.requires.within)

pub text_at-requires : goal.text_at-requires
text_at-requires c =
    let t = c.args.self.now in
    let l = length-rows t c.requires.table in
    let texts = c.requires.table.texts c.args.row c.index.result.now (omega (arith, c.requires.within)) in
    rw c.deref.ensures.value (subst (λ (v : LastPair). HoldsText t.values.items v.value) (sym c.index.ensures) texts)

pub returns : goal.returns
returns c = λ d.
    let t = c.args.self.now in
    ap chars (c.text_at.ensures ∙ ap (λ v. bytes_at v c.index.result.now.value) c.deref.ensures.value)
    ∙ ap (λ (l : LastPair). chars (bytes_at t.values.items l.value)) c.index.ensures
    ∙ sym (ap (λ (r : Row). r.value) (row-at t c.requires.table c.args.row d c.index.result.now c.requires.within))
