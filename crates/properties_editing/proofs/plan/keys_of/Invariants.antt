use Rattle.std.proofs.Common.{◌≡◌, false, take}
use Rattle.properties_editing.specs.Editing.{edits_in}
use Rattle.properties_editing.specs.Private.BodyParts.{AreUnplaced, is_named}
use Rattle.properties_editing.specs.Private.EditedParts.{AreNamed}
use Rattle.properties_editing.proofs.plan.keys_of.Given as goal

abbrev pub invariant-loop-edit : goal.invariant-loop-edit
invariant-loop-edit l = AreUnplaced l.keys × (l.keys.all ≡ false) × AreNamed (is_named l.keys) (edits_in (take l.edit-index l.edits))
