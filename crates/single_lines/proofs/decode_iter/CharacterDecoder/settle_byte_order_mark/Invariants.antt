use Rattle.std.proofs.Common.{◌≡◌, ◌-◌, false, [], length}
use Rattle.counted_io.specs.Streams.{reader, IsSameReader}
use Rattle.single_lines.specs.DecodeIter.{Decodes, undecoded}
use Rattle.single_lines.proofs.decode_iter.CharacterDecoder.settle_byte_order_mark.Given as goal

abbrev pub invariant-loop-self : goal.invariant-loop-self
invariant-loop-self g l = record {
  decodes : Decodes (reader g.R.Read g.R.CountedRead) l.fn.reader (undecoded l.fn.self) [] l.reader (undecoded l.self);
  undecided : l.self.is_decided ≡ false;
  same_reader : IsSameReader (reader g.R.Read g.R.CountedRead) l.fn.reader l.reader;
}

abbrev pub decreases-loop-self : goal.decreases-loop-self
decreases-loop-self g l = 3 - length l.self.bytes
