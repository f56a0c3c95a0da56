use Rattle.std.proofs.Common.{◌≡◌, take}
use Rattle.std.specs.Prelude.{map}
use Rattle.java_properties.specs.{Editing.edits_in, Maps.characters}
use Rattle.properties_changing.specs.Change.{edited_keys}
use Rattle.properties_changing.proofs.change.keys_of.Given as goal

abbrev pub invariant-loop-edit : goal.invariant-loop-edit
invariant-loop-edit l = map characters l.keys.items ≡ edited_keys (edits_in (take l.edit-index l.edits))
