use Rattle.std.proofs.Common.{◌≡◌, not, if◌then◌else◌, length}
use Rattle.properties_format.specs.{Lines.is_open, Computed.Cut.decoded_line}
use Rattle.properties_text.specs.Encoding.{encoding_of}
use Rattle.properties_lines.specs.LineSearch.{unit_size}
use Rattle.properties_checking.proofs.open_lines.is_open.Given as goal

abbrev pub invariant-loop-last : goal.invariant-loop-last
invariant-loop-last l = record {
  same : is_open (decoded_line (encoding_of l.encoding) l.bytes)
      ≡ (if l.odd then not (is_open (decoded_line (encoding_of l.encoding) l.rest)) else is_open (decoded_line (encoding_of l.encoding) l.rest));
  size : l.size ≡ unit_size (encoding_of l.encoding);
}

abbrev pub decreases-loop-last : goal.decreases-loop-last
decreases-loop-last l = length l.rest
