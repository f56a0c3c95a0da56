use Rattle.std.proofs.Common.{take, drop, sym}
use Rattle.std.proofs.lemmas.List.{take_rest}
use Rattle.properties_lines.proofs.ScannerSearch.{plain-before, plain-clear, plain-found, plain-unescaped}
use Rattle.properties_lines.proofs.scanner.Scanner.search_bytes.Goals as goal
use Rattle.properties_lines.proofs.scanner.Scanner.search_bytes.Goals.{in_default-via-in-Found+else-bytes-size-eq92, in_default-via-in_default}

pub search_escaped-requires-clause-before : goal.search_escaped-requires-clause-before
search_escaped-requires-clause-before c =
    let s = c.args.self.now in
    let found = rw c.in-Found.is at (rw (take_rest c.args.held.now s.at) at c.search_blocks-found.ensures) in
    plain-before (drop s.at c.args.held.now) c.in-Found.size c.in-Found.is_ascii found.0

pub take_found-requires-in_default-clause-found : goal.take_found-requires-in_default-clause-found
take_found-requires-in_default-clause-found c =
    let s = c.args.self.now in
    let bytes = drop s.at c.args.held.now in
    let rest = take_rest c.args.held.now s.at in
    let finds = rw rest at c.search_blocks-found.ensures in
    elim c.in_default.branch [
      | in_default-via-in-Found+else-bytes-size-eq92 w ↦
          let found = rw w.in-Found.is at finds in
          let other = rw rest at w.if-bytes-size-eq92.false in
          rw w.found-is (plain-found bytes w.in-Found.size w.in-Found.is_ascii found other)
      | in_default-via-in_default w ↦
          let none = rw w.in_default.is at finds in
          rw (w.found-is, w.in_default.is) (none.0, none.1, plain-clear (take w.in_default.field-0 bytes) none.2)
    ]

pub take_found-requires-in_default-clause-backslash : goal.take_found-requires-in_default-clause-backslash
take_found-requires-in_default-clause-backslash c =
    let s = c.args.self.now in
    let finds = rw (take_rest c.args.held.now s.at) at c.search_blocks-found.ensures in
    elim c.in_default.branch [
      | in_default-via-in-Found+else-bytes-size-eq92 w ↦
          let found = rw w.in-Found.is at finds in
          rw w.found-is (sym (plain-unescaped (take w.in-Found.size (drop s.at c.args.held.now)) found.0.clear))
      | in_default-via-in_default w ↦ rw (w.found-is, w.in_default.is) tt
    ]
