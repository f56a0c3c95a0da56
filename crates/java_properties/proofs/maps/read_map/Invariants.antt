use Rattle.counted_io.specs.Streams.{reader, IsSameReader}
use Rattle.properties_text.specs.Encoding.{encoding_of}
use Rattle.properties_lines.specs.LineReader.{lines_left}
use Rattle.java_properties.proofs.TextMaps.Reading.{HasPassed}
use Rattle.java_properties.proofs.maps.read_map.Given as goal

abbrev pub invariant-loop-item : goal.invariant-loop-item
invariant-loop-item g l = record {
  passed : HasPassed (reader g.R.Read g.R.CountedRead) (encoding_of l.fn.encoding) l.fn.input (g.M.TextMap.entries l.map) l.items.state l.input;
  ordered : g.M.TextMap.is_ordered l.map;
  same_reader : IsSameReader (reader g.R.Read g.R.CountedRead) l.fn.input l.input;
}

abbrev pub decreases-loop-item : goal.decreases-loop-item
decreases-loop-item g l = lines_left l.items.state
