use Rattle.std.proofs.Common.{take}
use Rattle.properties_renaming.specs.KeyEdits.{AreLike, key_edit_in, key_edits_in}
use Rattle.properties_renaming.proofs.key_edits.run_size.Given as goal

abbrev pub invariant-loop-index : goal.invariant-loop-index
invariant-loop-index l = AreLike (key_edit_in l.first) (key_edits_in (take l.index l.others))
