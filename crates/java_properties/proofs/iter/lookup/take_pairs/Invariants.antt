use Rattle.std.proofs.Common.{◌≡◌}
use Rattle.std.specs.Prelude.{None}
use Rattle.properties_text.specs.Encoding.{encoding_of}
use Rattle.properties_lines.specs.LineReader.{lines_left}
use Rattle.java_properties.proofs.TakenPairs.{HasTaken}
use Rattle.java_properties.proofs.iter.lookup.take_pairs.Given as goal

abbrev pub invariant-loop-number : goal.invariant-loop-number
invariant-loop-number g l = record {
  taken : HasTaken (g.T.PairTaker.has l.fn.taker) l.fn.options.comments (encoding_of l.fn.options.encoding) l.fn.source l.taker l.lines.at.state l.input;
  error : l.lines.error ≡ None;
}

abbrev pub decreases-loop-number : goal.decreases-loop-number
decreases-loop-number g l = lines_left l.lines.at.state
