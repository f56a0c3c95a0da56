use Rattle.std.proofs.Common.{◌-◌, length}
use Rattle.properties_renaming.specs.KeyEdits.{key_edits_in}
use Rattle.properties_renaming.proofs.key_edits.edit_keys.Given as goal
use Rattle.properties_renaming.proofs.RunsInTurn.{AreMadeTo}

abbrev pub invariant-loop-done : goal.invariant-loop-done
invariant-loop-done l = AreMadeTo l.options l.source (key_edits_in l.edits) l.done l.bytes.items

abbrev pub decreases-loop-done : goal.decreases-loop-done
decreases-loop-done l = length l.edits - l.done
