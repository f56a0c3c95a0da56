use Rattle.std.proofs.Common.{length}
use Rattle.properties_renaming.proofs.LastLines.{AreLastUpTo}
use Rattle.properties_renaming.proofs.commenting.last_lines.Given as goal

abbrev pub invariant-loop-lines : goal.invariant-loop-lines
invariant-loop-lines l = AreLastUpTo l.fn.indices.entries l.fn.count l.initial.view l.view l.lines.items

abbrev pub decreases-loop-lines : goal.decreases-loop-lines
decreases-loop-lines l = length l.view.to_come
