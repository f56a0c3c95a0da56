use Rattle.std.proofs.Common.{length}
use Rattle.properties_editing.specs.Editing.{asked_for}
use Rattle.properties_renaming.specs.Renames.{names_in}
use Rattle.properties_renaming.proofs.RenamesAtOnce.{AreRenamedUpTo}
use Rattle.properties_renaming.proofs.renames.rename_by_roles.Given as goal

abbrev pub invariant-loop-lines : goal.invariant-loop-lines
invariant-loop-lines l =
    AreRenamedUpTo (asked_for l.fn.options).characters l.fn.source (names_in l.fn.renames) l.initial.view l.view l.copied l.lines.entries l.first

abbrev pub decreases-loop-lines : goal.decreases-loop-lines
decreases-loop-lines l = length l.view.to_come
