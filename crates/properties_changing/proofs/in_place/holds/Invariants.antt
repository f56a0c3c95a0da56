use Rattle.std.proofs.Common.{◌≡◌, length}
use Rattle.properties_changing.proofs.in_place.holds.Given as goal

abbrev pub invariant-loop-rest : goal.invariant-loop-rest
invariant-loop-rest l = length l.block ≡ 65536

abbrev pub decreases-loop-rest : goal.decreases-loop-rest
decreases-loop-rest l = length l.rest
