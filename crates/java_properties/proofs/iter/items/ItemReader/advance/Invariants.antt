use Rattle.std.proofs.Common.{◌≡◌, ◌≤◌, ℕ, List}
use Rattle.std.specs.Prelude.{None}
use Rattle.counted_io.specs.Streams.{reader, IsSameReader}
use Rattle.properties_lines.specs.LineReader.{lines_left}
use Rattle.java_properties.proofs.Items.{Passed}
use Rattle.java_properties.proofs.iter.items.ItemReader.advance.Given as goal

abbrev pub invariant-loop-number : goal.invariant-loop-number
invariant-loop-number g l = record {
  passed : (bytes : List ℕ) × Passed (reader g.R.Read g.R.CountedRead) l.fn.self.state l.fn.reader bytes l.self-inside.lines.at.state l.reader;
  left : lines_left l.self-inside.lines.at.state ≤ lines_left l.fn.self.state;
  error : l.self-inside.lines.error ≡ None;
  same_reader : IsSameReader (reader g.R.Read g.R.CountedRead) l.fn.reader l.reader;
}

abbrev pub decreases-loop-number : goal.decreases-loop-number
decreases-loop-number g l = lines_left l.self-inside.lines.at.state
