use Rattle.counted_io.specs.Streams.{sink, IsSameSink}
use Rattle.properties_text.specs.Encoding.{line_of}
use Rattle.java_properties.specs.Private.Engine.{writing}
use Rattle.java_properties.proofs.TextMaps.Writing.{HasWrittenFirst}
use Rattle.java_properties.proofs.maps.write_pairs.Given as goal

abbrev pub invariant-loop-key : goal.invariant-loop-key
invariant-loop-key g l = record {
  written : HasWrittenFirst (sink g.W.Write g.W.CountedWrite) (line_of l.fn.encoding) l.fn.writer l.pairs l.key-index (writing l.engine l.writer);
  same_sink : IsSameSink (sink g.W.Write g.W.CountedWrite) l.fn.writer l.writer;
}
