use Rattle.std.proofs.Common.{◌≡◌, take}
use Rattle.properties_renaming.specs.Commenting.{texts_in}
use Rattle.properties_renaming.specs.KeyEdits.{comments_among, key_edits_in}
use Rattle.properties_renaming.proofs.key_edits.comments_of.Given as goal

abbrev pub invariant-loop-edit : goal.invariant-loop-edit
invariant-loop-edit l = texts_in l.comments.items ≡ comments_among (key_edits_in (take l.edit-index l.run))
