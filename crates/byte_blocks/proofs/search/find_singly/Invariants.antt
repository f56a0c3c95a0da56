use Rattle.memchr.specs.Find.{Nowhere, Passes}
use Rattle.byte_blocks.proofs.search.find_singly.Given as goal

abbrev pub invariant-loop-at : goal.invariant-loop-at
invariant-loop-at g l = Nowhere (Passes g.C.ByteClass.holds l.bytes) 0 l.at
