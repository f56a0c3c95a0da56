use Rattle.std.proofs.Common.{◌≡◌, ◌≤◌}
use Rattle.std.specs.Prelude.{None}
use Rattle.counted_io.specs.Streams.{reader, IsSameReader}
use Rattle.properties_lines.specs.LineReader.{lines_left}
use Rattle.properties_lines.specs.LogicalLine.{IsUnfinishedLine, unfinished_text}
use Rattle.properties_lines.proofs.LineJoiner.{GoesOn}
use Rattle.properties_lines.proofs.joiner.join_lines.Given as goal

abbrev pub invariant-loop-lines : goal.invariant-loop-lines
invariant-loop-lines g l = record {
  along : GoesOn (reader g.R.Read g.R.CountedRead) l.fn.lines.state l.fn.reader (unfinished_text l.fn.line) (unfinished_text l.line) l.lines.state l.reader;
  error : l.lines.error ≡ None;
  unfinished : IsUnfinishedLine l.fn.lines.state.encoding l.line;
  left : lines_left l.lines.state ≤ lines_left l.fn.lines.state;
  same_reader : IsSameReader (reader g.R.Read g.R.CountedRead) l.fn.reader l.reader;
}

abbrev pub decreases-loop-lines : goal.decreases-loop-lines
decreases-loop-lines g l = lines_left l.lines.state
