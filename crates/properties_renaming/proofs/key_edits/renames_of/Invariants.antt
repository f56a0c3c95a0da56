use Rattle.std.proofs.Common.{◌≡◌, take}
use Rattle.properties_renaming.specs.Renames.{names_in}
use Rattle.properties_renaming.specs.KeyEdits.{renames_among, key_edits_in}
use Rattle.properties_renaming.proofs.key_edits.renames_of.Given as goal

abbrev pub invariant-loop-edit : goal.invariant-loop-edit
invariant-loop-edit l = names_in l.renames.items ≡ renames_among (key_edits_in (take l.edit-index l.run))
