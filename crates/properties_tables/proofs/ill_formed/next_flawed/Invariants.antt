use Rattle.std.proofs.Common.{◌≡◌, length}
use Rattle.properties_lines.specs.Private.HeldLines.{held_lines_left}
use Rattle.properties_tables.specs.Private.Flawed.{numbers_left, IsScanning}
use Rattle.properties_tables.proofs.ill_formed.next_flawed.Given as goal

abbrev pub invariant-loop-scanner : goal.invariant-loop-scanner
invariant-loop-scanner l = record {
  scanning : IsScanning l.body l.scanner;
  same : numbers_left l.flaw l.body l.fn.scanner ≡ numbers_left l.flaw l.body l.scanner;
}

abbrev pub decreases-loop-scanner : goal.decreases-loop-scanner
decreases-loop-scanner l = length (held_lines_left l.body l.scanner)
