use Rattle.std.proofs.Common.{◌≡◌}
use Rattle.std.specs.Prelude.{None}
use Rattle.std.specs.BTreeMap.{IsOrdered}
use Rattle.std.specs.String.{string_cmp}
use Rattle.properties_text.specs.Encoding.{encoding_of}
use Rattle.properties_lines.specs.LineReader.{lines_left}
use Rattle.java_properties.proofs.KeyLines.{FoundKeys}
use Rattle.java_properties.proofs.iter.keys.key_lines.Given as goal

abbrev pub invariant-loop-number : goal.invariant-loop-number
invariant-loop-number l = record {
  found : FoundKeys (encoding_of l.fn.encoding) l.fn.source l.keys.items l.firsts.entries l.lines.at.state l.input;
  error : l.lines.error ≡ None;
  ordered : IsOrdered string_cmp l.firsts;
}

abbrev pub decreases-loop-number : goal.decreases-loop-number
decreases-loop-number l = lines_left l.lines.at.state
