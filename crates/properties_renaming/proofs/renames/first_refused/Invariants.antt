use Rattle.std.proofs.Common.{take}
use Rattle.properties_renaming.specs.Renames.{names_in}
use Rattle.properties_renaming.specs.Private.Renames.{AreAccepted}
use Rattle.properties_renaming.proofs.renames.first_refused.Given as goal

abbrev pub invariant-loop-index : goal.invariant-loop-index
invariant-loop-index l = AreAccepted (names_in l.renames) l.lines.entries (names_in (take l.index l.renames))
