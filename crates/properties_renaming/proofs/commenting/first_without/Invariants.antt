use Rattle.std.proofs.Common.{take}
use Rattle.properties_renaming.specs.Commenting.{texts_in}
use Rattle.properties_renaming.specs.Private.Commenting.{NoneIsWithout}
use Rattle.properties_renaming.proofs.commenting.first_without.Given as goal

abbrev pub invariant-loop-index : goal.invariant-loop-index
invariant-loop-index l = NoneIsWithout l.indices.entries l.lines (texts_in (take l.index l.comments))
