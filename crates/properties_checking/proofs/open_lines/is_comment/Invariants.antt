use Rattle.std.proofs.Common.{◌≡◌, length}
use Rattle.properties_format.specs.{Text.without_leading_blanks, Computed.Cut.decoded_line}
use Rattle.properties_text.specs.Encoding.{encoding_of}
use Rattle.properties_lines.specs.LineSearch.{unit_size}
use Rattle.properties_checking.proofs.open_lines.is_comment.Given as goal

abbrev pub invariant-loop-first : goal.invariant-loop-first
invariant-loop-first l = record {
  same : without_leading_blanks (decoded_line (encoding_of l.encoding) l.bytes) ≡ without_leading_blanks (decoded_line (encoding_of l.encoding) l.rest);
  size : l.size ≡ unit_size (encoding_of l.encoding);
}

abbrev pub decreases-loop-first : goal.decreases-loop-first
decreases-loop-first l = length l.rest
