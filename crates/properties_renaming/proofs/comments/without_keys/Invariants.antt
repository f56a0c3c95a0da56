use Rattle.std.proofs.Common.{length}
use Rattle.std.specs.Prelude.{map}
use Rattle.properties_items.specs.Texts.{characters}
use Rattle.properties_renaming.specs.Commented.{IsLeftOf}
use Rattle.properties_renaming.proofs.CommentedKeys.{IsMadeUpTo}
use Rattle.properties_renaming.proofs.comments.without_keys.Given as goal

abbrev pub invariant-loop-copied : goal.invariant-loop-copied
invariant-loop-copied l = IsMadeUpTo (IsLeftOf (map characters l.fn.keys)) l.fn.source l.initial.view l.view l.copied

abbrev pub decreases-loop-copied : goal.decreases-loop-copied
decreases-loop-copied l = length l.view.to_come
