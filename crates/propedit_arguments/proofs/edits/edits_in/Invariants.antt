use Rattle.std.proofs.Common.{◌∷◌, map, length}
use Rattle.std.specs.Prelude.{string_bytes}
use Rattle.propedit_arguments.specs.Private.Edits.{asked_edits}
use Rattle.propedit_arguments.proofs.Words.{HasMade}
use Rattle.propedit_arguments.proofs.edits.edits_in.Given as goal

abbrev pub invariant-loop-rest : goal.invariant-loop-rest
invariant-loop-rest l = HasMade (l.command ∷ map string_bytes l.words) (asked_edits l.edits.items) (map string_bytes l.rest)

abbrev pub decreases-loop-rest : goal.decreases-loop-rest
decreases-loop-rest l = length l.rest
