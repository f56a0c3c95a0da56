use Rattle.std.proofs.Common.{◌≡◌}
use Rattle.std.specs.Prelude.{None}
use Rattle.properties_text.specs.Encoding.{encoding_of}
use Rattle.properties_lines.specs.LineReader.{lines_left}
use Rattle.java_properties.proofs.SliceReads.{slice_of}
use Rattle.properties_tables.proofs.FindingFolds.{HasTaken}
use Rattle.properties_tables.proofs.fold.take_all.Given as goal

abbrev pub invariant-loop-number : goal.invariant-loop-number
invariant-loop-number g l = record {
  taken : HasTaken g.T.Taker.took l.fn.taker (encoding_of l.fn.encoding) l.fn.source l.taker l.lines.at.state (slice_of l.input);
  error : l.lines.error ≡ None;
}

abbrev pub decreases-loop-number : goal.decreases-loop-number
decreases-loop-number g l = lines_left l.lines.at.state
