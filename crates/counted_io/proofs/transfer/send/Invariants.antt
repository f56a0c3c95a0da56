use Rattle.std.proofs.Common.{length}
use Rattle.counted_io.specs.Streams.{sink, IsSameSink}
use Rattle.counted_io.proofs.Streams.{HasSent}
use Rattle.counted_io.proofs.transfer.send.Given as goal

abbrev pub invariant-loop-rest : goal.invariant-loop-rest
invariant-loop-rest g l = record {
  sent : HasSent (sink g.W.Write g.W.CountedWrite) l.fn.sink l.bytes l.rest l.sink;
  same_sink : IsSameSink (sink g.W.Write g.W.CountedWrite) l.fn.sink l.sink;
}

abbrev pub decreases-loop-rest : goal.decreases-loop-rest
decreases-loop-rest g l = length l.rest
