use Rattle.std.proofs.Common.{take}
use Rattle.properties_renaming.specs.Commenting.{texts_in}
use Rattle.properties_renaming.specs.Private.Commenting.{AreIndicesOf}
use Rattle.properties_renaming.proofs.commenting.indices_of.Given as goal

abbrev pub invariant-loop-index : goal.invariant-loop-index
invariant-loop-index l = AreIndicesOf (texts_in (take l.index l.comments)) l.indices.entries
