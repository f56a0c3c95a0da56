use Rattle.std.proofs.Common.{length}
use Rattle.properties_lines.specs.Private.HeldLines.{held_lines_left}
use Rattle.properties_editing.proofs.BodyViews.{HasTexts}
use Rattle.properties_editing.proofs.walk.Walk.ill_formed_line.Given as goal

abbrev pub invariant-loop-lines : goal.invariant-loop-lines
invariant-loop-lines l = HasTexts l.fn.self l.fn.group.next l.lines

abbrev pub decreases-loop-lines : goal.decreases-loop-lines
decreases-loop-lines l = length (held_lines_left l.self.source.now l.lines.scanner)
