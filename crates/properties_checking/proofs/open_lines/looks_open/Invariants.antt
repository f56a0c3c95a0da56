use Rattle.std.proofs.Common.{◌≡◌, length, reverse}
use Rattle.properties_format.specs.Computed.Cut.{decoded_line}
use Rattle.properties_text.specs.Encoding.{encoding_of}
use Rattle.properties_lines.specs.LineSearch.{unit_size}
use Rattle.properties_checking.proofs.open_lines.looks_open.Given as goal
use Rattle.properties_checking.proofs.OpenLines.{IsUnblanked}

abbrev pub invariant-loop-last : goal.invariant-loop-last
invariant-loop-last l = record {
  unblanked : IsUnblanked (reverse (decoded_line (encoding_of l.encoding) l.bytes)) (reverse (decoded_line (encoding_of l.encoding) l.rest)) l.is_blank_last;
  size : l.size ≡ unit_size (encoding_of l.encoding);
}

abbrev pub decreases-loop-last : goal.decreases-loop-last
decreases-loop-last l = length l.rest
