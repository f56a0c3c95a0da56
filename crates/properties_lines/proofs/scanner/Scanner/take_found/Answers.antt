use Rattle.std.proofs.Common.{drop, refl}
use Rattle.properties_lines.proofs.ScannerSearch.{flags-ascii, ready-on}
use Rattle.properties_lines.proofs.scanner.Scanner.take_found.Goals as goal

pub take-requires-clause-ascii : goal.take-requires-clause-ascii
take-requires-clause-ascii c =
    let found = rw c.in-Found.is at c.requires.found in
    flags-ascii (drop c.args.self.now.at c.args.held.now) c.in-Found.size 1 c.in-Found.is_ascii refl found.0.ascii

pub search_on-requires : goal.search_on-requires
search_on-requires c =
    let found = rw c.in-Searched.is at c.requires.found in
    ready-on c.args.self.now c.args.held.now c.in-Searched.count c.requires.ready c.requires.fresh found.0 found.2
