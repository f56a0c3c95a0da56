use Rattle.std.proofs.Common.{length}
use Rattle.counted_io.specs.Streams.{sink}
use Rattle.properties_c.proofs.WrittenLines.{HasAdded}
use Rattle.properties_c.proofs.write.write_lines.Given as goal

abbrev pub invariant-loop-rest : goal.invariant-loop-rest
invariant-loop-rest g l = HasAdded (sink g.W.Write g.W.CountedWrite) l.list l.fn.writer l.has_refused l.rest l.writer

abbrev pub decreases-loop-rest : goal.decreases-loop-rest
decreases-loop-rest g l = length l.rest
