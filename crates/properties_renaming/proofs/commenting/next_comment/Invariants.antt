use Rattle.std.proofs.Common.{length}
use Rattle.properties_renaming.proofs.FoundComments.{AreGathered}
use Rattle.properties_renaming.proofs.commenting.next_comment.Given as goal

abbrev pub invariant-loop-texts : goal.invariant-loop-texts
invariant-loop-texts l = AreGathered l.initial.view l.view l.above l.last l.texts.items l.model l.separator

abbrev pub decreases-loop-texts : goal.decreases-loop-texts
decreases-loop-texts l = length l.view.to_come
