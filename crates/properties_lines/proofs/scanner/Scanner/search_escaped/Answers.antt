use Rattle.std.proofs.Common.{drop}
use Rattle.std.proofs.lemmas.List.{take_rest}
use Rattle.properties_lines.proofs.ScannerSearch.{tells-escaped}
use Rattle.properties_lines.proofs.scanner.Scanner.search_escaped.Goals as goal

pub take_found-requires-clause-backslash : goal.take_found-requires-clause-backslash
take_found-requires-clause-backslash c =
    let s = c.args.self.now in
    let finds = rw (take_rest c.args.held.now s.at) at c.search_blocks-found.ensures in
    tells-escaped (drop s.at c.args.held.now) c.args.from c.args.is_ascii_before c.search_blocks-found.result c.requires.before finds c.requires.escaped
