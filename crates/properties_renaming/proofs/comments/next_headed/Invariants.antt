use Rattle.std.proofs.Common.{List, length}
use Rattle.properties_format.specs.Body.{HeldLine}
use Rattle.properties_renaming.proofs.CommentedKeys.{ArePassed}
use Rattle.properties_renaming.proofs.comments.next_headed.Given as goal

abbrev pub invariant-loop-group : goal.invariant-loop-group
invariant-loop-group l = (above : List (List HeldLine)) × (comment : List (List HeldLine)) × ArePassed l.initial.view l.view above comment l.above l.last

abbrev pub decreases-loop-group : goal.decreases-loop-group
decreases-loop-group l = length l.view.to_come
