use Rattle.std.proofs.Common.{◌≡◌}
use Rattle.std.specs.Prelude.{None}
use Rattle.counted_io.specs.Streams.{reader, sink, IsSameReader, IsSameSink}
use Rattle.properties_lines.specs.LineReader.{lines_left}
use Rattle.java_properties.specs.Private.GivenItems.{as_text, iteration_of}
use Rattle.java_properties.specs.Private.Engine.{writing}
use Rattle.java_properties.proofs.Copying.{IsCopiedTo}
use Rattle.java_properties.proofs.copy.copy_lines.Given as goal

abbrev pub invariant-loop-number : goal.invariant-loop-number
invariant-loop-number g l = record {
  copied : IsCopiedTo (reader g.R.Read g.R.CountedRead) (sink g.W.Write g.W.CountedWrite) (iteration_of (as_text l.fn.lines.at) l.fn.reader)
      (writing l.fn.engine l.fn.sink)
      l.lines.at.state l.reader (writing l.engine l.sink);
  error : l.lines.error ≡ None;
  readable : l.engine.settings.readable ≡ l.fn.readable;
  same_reader : IsSameReader (reader g.R.Read g.R.CountedRead) l.fn.reader l.reader;
  same_sink : IsSameSink (sink g.W.Write g.W.CountedWrite) l.fn.sink l.sink;
}

abbrev pub decreases-loop-number : goal.decreases-loop-number
decreases-loop-number g l = lines_left l.lines.at.state
