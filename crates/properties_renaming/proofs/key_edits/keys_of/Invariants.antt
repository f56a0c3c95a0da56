use Rattle.std.proofs.Common.{◌≡◌, map, take}
use Rattle.properties_items.specs.Texts.{characters}
use Rattle.properties_renaming.specs.KeyEdits.{removals_among, key_edits_in}
use Rattle.properties_renaming.proofs.key_edits.keys_of.Given as goal

abbrev pub invariant-loop-edit : goal.invariant-loop-edit
invariant-loop-edit l = map characters l.keys.items ≡ removals_among (key_edits_in (take l.edit-index l.run))
