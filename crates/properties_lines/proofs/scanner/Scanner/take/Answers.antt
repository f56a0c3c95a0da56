use Rattle.std.proofs.Common.{rules}
use Rattle.properties_lines.proofs.ScannerSearch.{IsTaken, takes-lf, takes-cr}
use Rattle.properties_lines.proofs.scanner.Scanner.take.Goals as goal
use Rattle.properties_lines.proofs.scanner.Scanner.take.Goals.{Start}

taken : (c : Start) → IsTaken c.args.self.now c.args.held.now c.args.end c.args.unit c.args.is_ascii c.args.has_backslash
taken c = search rules

pub returns-then-end : goal.returns-then-end
returns-then-end c =
    let passed = rw c.take_line.ensures at c.skip_feed.ensures in
    takes-cr c.args.self.now c.skip_feed.new.self c.args.held.now c.args.end c.args.unit c.args.is_ascii c.args.has_backslash c.skip_feed.result
    (taken (goal.at.returns-then-end c).Start) c.if-end.true passed

pub returns-else-end : goal.returns-else-end
returns-else-end c =
    rw c.take_line.ensures (takes-lf c.args.self.now c.args.held.now c.args.end c.args.unit c.args.is_ascii c.args.has_backslash
    (taken (goal.at.returns-else-end c).Start) c.if-end.false)
