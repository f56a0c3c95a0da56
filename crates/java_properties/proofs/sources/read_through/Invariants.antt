use Rattle.std.proofs.Common.{◌<◌, ◌-◌, ◌^◌, length}
use Rattle.counted_io.specs.Streams.{HasRead, IsSameReader, reader}
use Rattle.java_properties.proofs.sources.read_through.Given as goal

abbrev pub invariant-loop-bytes : goal.invariant-loop-bytes
invariant-loop-bytes g l = record {
  read : HasRead (reader g.R.Read g.R.CountedRead) l.fn.reader l.bytes.items l.reader;
  room : 0 < length l.block;
  same_reader : IsSameReader (reader g.R.Read g.R.CountedRead) l.fn.reader l.reader;
}

abbrev pub decreases-loop-bytes : goal.decreases-loop-bytes
decreases-loop-bytes g l = 2 ^ 64 - length l.bytes.items
