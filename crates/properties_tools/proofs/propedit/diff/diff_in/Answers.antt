use Rattle.std.proofs.Common.{ap, ◌∙◌}
use Rattle.properties_text.specs.Encoding.{encoding_of}
use Rattle.properties_tools.specs.{Propedit.report_status, Private.Differing.differences}
use Rattle.properties_tables.specs.Private.Table.{rows_of}
use Rattle.properties_tools.proofs.TableDifferences.{comparable, compared, lines-between}
use Rattle.properties_tables.proofs.Tables.{lines-fit}
use Rattle.properties_tools.proofs.propedit.diff.diff_in.Goals as goal

pub lines-requires-clause-old : goal.lines-requires-clause-old
lines-requires-clause-old g c = comparable c.in-Ok.table c.in-Ok.ensures.1 c.in-Ok.ensures.2

pub lines-requires-clause-new : goal.lines-requires-clause-new
lines-requires-clause-new g c = comparable c.in-Ok-table_of.table c.in-Ok-table_of.ensures.1 c.in-Ok-table_of.ensures.2

pub returns-in-Ok-lines : goal.returns-in-Ok-lines
returns-in-Ok-lines g c =
    let olds = rows_of c.in-Ok.table in
    let news = rows_of c.in-Ok-table_of.table in
    record {
      old_sound = c.in-Ok.ensures.0;
      new_sound = c.in-Ok-table_of.ensures.0;
      differences = differences olds news;
      are = compared (encoding_of c.args.encoding) c.args.old.now c.args.new.now olds news c.in-Ok.ensures.2 c.in-Ok-table_of.ensures.2;
      lines = lines-between olds news (lines-fit c.in-Ok.table c.in-Ok.ensures.1) (lines-fit c.in-Ok-table_of.table c.in-Ok-table_of.ensures.1);
      text = c.in-Ok-lines.ensures;
      status = c.status_of.ensures ∙ ap report_status c.deref.ensures.value;
    }
