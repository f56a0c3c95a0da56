use Rattle.std.proofs.Common.{◌-◌, length}
use Rattle.properties_lines.specs.Scanner.{IsBefore}
use Rattle.properties_lines.proofs.search.search_blocks.Given as goal

abbrev pub invariant-loop-at : goal.invariant-loop-at
invariant-loop-at g l = IsBefore g.C.ByteClass.holds l.bytes l.at l.is_ascii

abbrev pub decreases-loop-at : goal.decreases-loop-at
decreases-loop-at g l = length l.bytes - l.at
