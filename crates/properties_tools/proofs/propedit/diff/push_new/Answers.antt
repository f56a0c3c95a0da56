use Rattle.std.proofs.Common.{◌<◌, arith, length}
use Rattle.properties_tools.specs.Private.Differing.{no_row, of_new}
use Rattle.properties_tables.specs.Private.Table.{rows_of}
use Rattle.properties_tools.proofs.TableDifferences.{text-more}
use Rattle.properties_tools.proofs.propedit.diff.push_new.Goals as goal

pub push_came-requires-clause-new : goal.push_came-requires-clause-new
push_came-requires-clause-new g c =
    let size = c.len-row-end.ensures in
    let test = c.loop-row-test.true in
    record { can = c.requires.new; within = omega arith }

pub loop-row-preserved : goal.loop-row-preserved
loop-row-preserved g c =
    let rows = rows_of c.args.news.now in
    let size = c.len-row-end.ensures in
    let test = c.loop-row-test.true in
    let within : c.loop-row.row < length rows = omega arith in
    text-more (g.F.DiffForm.printed c.args.form.now) c.args.text.now.items c.loop-row.text.items c.push_came.new.text.items
    (of_new (rows_of c.args.olds.now)) rows c.loop-row.row no_row within c.loop-row.invariant c.in_ok-push_came.ensures
