use Rattle.std.proofs.Common.{length}
use Rattle.properties_format.specs.Encoding.{repertoire_in_force}
use Rattle.properties_format.specs.Valued.{ending_in}
use Rattle.properties_editing.specs.Editing.{asked_for}
use Rattle.properties_renaming.specs.Commenting.{IsCommented, texts_in}
use Rattle.properties_renaming.proofs.CommentedKeys.{IsMadeUpTo}
use Rattle.properties_renaming.proofs.commenting.with_new_lines.Given as goal

abbrev pub invariant-loop-copied : goal.invariant-loop-copied
invariant-loop-copied l =
    IsMadeUpTo
    (IsCommented (repertoire_in_force (asked_for l.fn.options) l.fn.source) (ending_in l.initial.view.to_come) (texts_in l.fn.comments))
    l.fn.source l.initial.view l.view l.copied

abbrev pub decreases-loop-copied : goal.decreases-loop-copied
decreases-loop-copied l = length l.view.to_come
