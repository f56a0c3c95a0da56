use Rattle.std.proofs.Common.{◌≡◌, ◌++◌, false, length}
use Rattle.properties_format.specs.Computed.Body.{held_lines_of}
use Rattle.properties_text.specs.Encoding.{encoding_of}
use Rattle.properties_lines.specs.Private.HeldLines.{held_lines_left}
use Rattle.properties_checking.specs.{Private.Checking.misread_finding, Private.OpenLines.ends_from}
use Rattle.properties_tables.specs.Private.Flawed.{IsScanning}
use Rattle.properties_checking.proofs.open_lines.push_ends.Given as goal
use Rattle.properties_checking.proofs.OpenLines.{ends_left}

abbrev pub invariant-loop-number : goal.invariant-loop-number
invariant-loop-number l = record {
  scanning : IsScanning l.body l.scanner;
  encoding : encoding_of l.scanner.encoding ≡ encoding_of l.in_force;
  all : l.findings.items ++ ends_left l.is_joined l.body l.scanner
      ≡ l.fn.findings.items ++ ends_from misread_finding false 0 (held_lines_of (encoding_of l.in_force) l.body);
}

abbrev pub decreases-loop-number : goal.decreases-loop-number
decreases-loop-number l = length (held_lines_left l.body l.scanner)
