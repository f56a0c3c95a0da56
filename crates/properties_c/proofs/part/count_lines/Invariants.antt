use Rattle.std.proofs.Common.{length}
use Rattle.properties_text.specs.Encoding.{encoding_of}
use Rattle.properties_lines.specs.Private.HeldLines.{held_lines_left}
use Rattle.properties_c.proofs.PartedLines.{IsCounting}
use Rattle.properties_c.proofs.part.count_lines.Given as goal

abbrev pub invariant-loop-scanner : goal.invariant-loop-scanner
invariant-loop-scanner l = IsCounting (encoding_of l.in_force) l.body l.scanner

abbrev pub decreases-loop-scanner : goal.decreases-loop-scanner
decreases-loop-scanner l = length (held_lines_left l.body l.scanner)
