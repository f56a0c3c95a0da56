use Rattle.counted_io.specs.Streams.{reader}
use Rattle.properties_lines.specs.LineReader.{lines_left}
use Rattle.java_properties.proofs.ReadInto.{HasCalled}
use Rattle.java_properties.proofs.iter.PropertiesIter.read_into.Given as goal

abbrev pub invariant-loop-item : goal.invariant-loop-item
invariant-loop-item g l = record {
  called : HasCalled (reader g.R.Read g.R.CountedRead) (goal.F-step g) l.fn.self l.fn.f l.self l.f;
}

abbrev pub decreases-loop-item : goal.decreases-loop-item
decreases-loop-item g l = lines_left l.self.state
