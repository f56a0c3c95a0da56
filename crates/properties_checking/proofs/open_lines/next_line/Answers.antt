use Rattle.properties_tables.proofs.FlawedLines.{found-scanning}
use Rattle.properties_checking.proofs.open_lines.next_line.Goals as goal

pub returns-in-Line : goal.returns-in-Line
returns-in-Line c = record {
  gives = c.in-Line.ensures;
  scanning = found-scanning c.args.body.now c.args.scanner.now c.next.new.self c.requires c.in-Line.ensures;
  is = c.number.ensures;
}
