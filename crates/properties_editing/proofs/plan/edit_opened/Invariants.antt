use Rattle.std.proofs.Common.{take}
use Rattle.properties_editing.specs.Editing.{edits_in, asked_for}
use Rattle.properties_editing.proofs.EditedLists.{ArePartsAfter}
use Rattle.properties_editing.proofs.plan.edit_opened.Given as goal

abbrev pub invariant-loop-edit : goal.invariant-loop-edit
invariant-loop-edit l = ArePartsAfter (asked_for l.fn.options) l.source (edits_in (take l.edit-index l.edits)) (edits_in l.edits) l.edited
