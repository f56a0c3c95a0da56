use Rattle.std.proofs.Common.{◌≡◌, take}
use Rattle.properties_editing.specs.Editing.{edits_in}
use Rattle.properties_renaming.specs.KeyEdits.{edits_among, key_edits_in}
use Rattle.properties_renaming.proofs.key_edits.edits_of.Given as goal

abbrev pub invariant-loop-edit : goal.invariant-loop-edit
invariant-loop-edit l = edits_in l.edits.items ≡ edits_among (key_edits_in (take l.edit-index l.run))
