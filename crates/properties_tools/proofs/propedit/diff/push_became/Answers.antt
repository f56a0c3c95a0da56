use Rattle.std.proofs.Common.{ap, append-nil, sym, ◌∙◌, ◌++◌}
use Rattle.std.specs.Str.{chars}
use Rattle.std.proofs.lemmas.Result.{on_ok_weaker}
use Rattle.properties_tools.specs.Private.Differing.{no_row, row_at}
use Rattle.properties_tables.specs.Private.Table.{rows_of}
use Rattle.properties_tools.proofs.TableDifferences.{found-within, text-changed, text-gone, text-kept, values-told}
use Rattle.properties_tools.proofs.propedit.diff.push_became.Goals as goal

pub find-requires : goal.find-requires
find-requires g c = c.requires.new.table

pub value-requires-2 : goal.value-requires-2
value-requires-2 g c = record { can = c.requires.new; within = found-within (rows_of c.args.news.now) (chars c.key.result.now) c.in-Some.row c.in-Some.ensures }

pub returns-in_default : goal.returns-in_default
returns-in_default g c =
    on_ok_weaker c.gone.result
    (λ printed.
    printed
    ∙ ap (λ v. c.args.text.now.items ++ v)
    (sym (text-gone (g.F.DiffForm.printed c.args.form.now) (row_at c.args.old) (chars c.key.result.now) c.key.ensures (rows_of c.args.news.now) c.in_default.ensures)))
    c.gone.ensures

pub returns-then-eq : goal.returns-then-eq
returns-then-eq g c =
    let told = values-told c.value.result.now c.value-2.result.now _ _ c.eq.result c.value.utf8 c.value-2.utf8 in
    let same = told c.value.ensures c.value-2.ensures c.eq.ensures ∙ c.if-eq.true in
    let kept = text-kept (g.F.DiffForm.printed c.args.form.now) (row_at c.args.old) (chars c.key.result.now) c.key.ensures c.args.news.now c.in-Some.row no_row
    c.requires.new c.in-Some.ensures same in
    sym (ap (λ v. c.args.text.now.items ++ v) kept ∙ append-nil c.args.text.now.items)

pub returns : goal.returns
returns g c =
    let told = values-told c.value.result.now c.value-2.result.now _ _ c.eq.result c.value.utf8 c.value-2.utf8 in
    let other = told c.value.ensures c.value-2.ensures c.eq.ensures ∙ c.if-eq.false in
    on_ok_weaker c.changed.result
    (λ printed.
    printed
    ∙ ap (λ v. c.args.text.now.items ++ v)
    (sym (text-changed (g.F.DiffForm.printed c.args.form.now) (row_at c.args.old) (chars c.key.result.now) c.key.ensures c.args.news.now c.in-Some.row no_row
    c.requires.new c.in-Some.ensures other)))
    c.changed.ensures
