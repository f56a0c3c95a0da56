use Rattle.properties_tables.specs.Private.Table.{rows_of}
use Rattle.properties_tools.proofs.TableDifferences.{text-both}
use Rattle.properties_tools.proofs.propedit.diff.lines.Goals as goal

pub returns : goal.returns
returns g c =
    let gone = rw c.new-text.ensures.items at c.in_ok-push_old.ensures in
    text-both (g.F.DiffForm.printed c.args.form.now) _ _ (rows_of c.args.olds.now) (rows_of c.args.news.now) gone c.in_ok-push_new.ensures
