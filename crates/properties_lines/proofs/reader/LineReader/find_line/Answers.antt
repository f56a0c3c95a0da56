use Rattle.std.proofs.Common.{false}
use Rattle.properties_lines.proofs.LineReaders.{along-start, found}
use Rattle.properties_lines.proofs.reader.LineReader.find_line.Goals as goal

pub returns-in-Line-clause-finds : goal.returns-in-Line-clause-finds
returns-in-Line-clause-finds g c =
    let line = c.in-Line.ensures in
    (found false c.scan.new.self (along-start c.args.self.now.state c.args.reader.now) (λ w. absurd (cc)) line, line.flags, line.error)
