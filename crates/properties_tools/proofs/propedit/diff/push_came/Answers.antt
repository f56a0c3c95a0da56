use Rattle.std.proofs.Common.{ap, append-nil, sym, ◌∙◌, ◌++◌}
use Rattle.std.specs.Str.{chars}
use Rattle.std.proofs.lemmas.Result.{on_ok_weaker}
use Rattle.properties_tools.specs.Private.Differing.{no_row, row_at}
use Rattle.properties_tables.specs.Private.Table.{rows_of}
use Rattle.properties_tools.proofs.TableDifferences.{text-came, text-there}
use Rattle.properties_tools.proofs.propedit.diff.push_came.Goals as goal

pub returns-in-Some : goal.returns-in-Some
returns-in-Some g c =
    let key = chars c.key.result.now in
    let there = text-there (g.F.DiffForm.printed c.args.form.now) (row_at c.args.new) key c.key.ensures c.args.olds.now c.in-Some.field-0 no_row c.requires.old
    c.in-Some.ensures in
    sym (ap (λ v. c.args.text.now.items ++ v) there ∙ append-nil c.args.text.now.items)

pub returns-in-None : goal.returns-in-None
returns-in-None g c =
    on_ok_weaker c.came.result
    (λ printed.
    printed
    ∙ ap (λ v. c.args.text.now.items ++ v)
    (sym (text-came (g.F.DiffForm.printed c.args.form.now) (row_at c.args.new) (chars c.key.result.now) c.key.ensures (rows_of c.args.olds.now) c.in-None.ensures)))
    c.came.ensures
