use Rattle.std.proofs.Common.{◌≡◌}
use Rattle.std.specs.Prelude.{None}
use Rattle.properties_text.specs.Encoding.{encoding_of}
use Rattle.properties_lines.specs.LineReader.{lines_left}
use Rattle.java_properties.proofs.SourceFindings.{HasFound}
use Rattle.java_properties.proofs.iter.escapes.malformed_escapes.Given as goal

abbrev pub invariant-loop-number : goal.invariant-loop-number
invariant-loop-number l = record {
  found : HasFound (encoding_of l.fn.encoding) l.fn.source l.escapes.items l.lines.at.state l.input;
  error : l.lines.error ≡ None;
}

abbrev pub decreases-loop-number : goal.decreases-loop-number
decreases-loop-number l = lines_left l.lines.at.state
