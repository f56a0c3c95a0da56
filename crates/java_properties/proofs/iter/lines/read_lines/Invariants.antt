use Rattle.std.proofs.Common.{ℕ, List}
use Rattle.counted_io.specs.Streams.{reader, IsSameReader}
use Rattle.properties_text.specs.Encoding.{encoding_of}
use Rattle.properties_lines.specs.LineReader.{lines_left}
use Rattle.java_properties.specs.ReadLines.{entries_in}
use Rattle.java_properties.proofs.Readings.{Collected}
use Rattle.java_properties.proofs.iter.lines.read_lines.Given as goal

abbrev pub invariant-loop-item : goal.invariant-loop-item
invariant-loop-item g l = record {
  collected : (bytes : List ℕ)
      × Collected (reader g.R.Read g.R.CountedRead) (encoding_of l.fn.encoding) l.fn.input bytes (entries_in l.lines.items) l.items.state l.input;
  same_reader : IsSameReader (reader g.R.Read g.R.CountedRead) l.fn.input l.input;
}

abbrev pub decreases-loop-item : goal.decreases-loop-item
decreases-loop-item g l = lines_left l.items.state
