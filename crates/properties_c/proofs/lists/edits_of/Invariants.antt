use Rattle.std.proofs.Common.{length}
use Rattle.properties_renaming.specs.KeyEdits.{key_edits_in}
use Rattle.properties_c.specs.Packed.{edits, BeginsList}
use Rattle.properties_c.proofs.lists.edits_of.Given as goal

abbrev pub invariant-loop-rest : goal.invariant-loop-rest
invariant-loop-rest l = BeginsList edits l.list (key_edits_in l.edits.items) l.rest

abbrev pub decreases-loop-rest : goal.decreases-loop-rest
decreases-loop-rest l = length l.rest
