use Rattle.counted_io.specs.Streams.{reader}
use Rattle.properties_text.specs.Encoding.{encoding_of}
use Rattle.properties_lines.specs.LineReader.{lines_left}
use Rattle.java_properties.proofs.Readings.{HasDropped}
use Rattle.java_properties.proofs.sources.read_all_items.Given as goal

abbrev pub invariant-loop-item : goal.invariant-loop-item
invariant-loop-item g l = HasDropped (reader g.R.Read g.R.CountedRead) (encoding_of l.fn.encoding) l.fn.reader l.items.state l.reader

abbrev pub decreases-loop-item : goal.decreases-loop-item
decreases-loop-item g l = lines_left l.items.state
