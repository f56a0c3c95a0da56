use Rattle.std.proofs.Common.{length}
use Rattle.properties_text.specs.Encoding.{encoding_of}
use Rattle.properties_lines.specs.Private.HeldLines.{held_lines_left}
use Rattle.properties_editing.proofs.BodyCuts.{IsCutting}
use Rattle.properties_editing.proofs.cuts.find_cut.Given as goal

abbrev pub invariant-loop-lines : goal.invariant-loop-lines
invariant-loop-lines l = IsCutting (encoding_of l.fn.lines.scanner.encoding) l.body l.fn.count l.fn.lines l.lines l.is_first l.wanted

abbrev pub decreases-loop-lines : goal.decreases-loop-lines
decreases-loop-lines l = length (held_lines_left l.body l.lines.scanner)
