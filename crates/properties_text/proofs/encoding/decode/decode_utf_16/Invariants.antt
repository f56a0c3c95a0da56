use Rattle.std.proofs.Common.{◌≡◌, ◌≤◌, ◌+◌, ◌*◌, ◌++◌, length, take}
use Rattle.std.specs.Str.{chars, IsUtf8}
use Rattle.properties_text.specs.Encoding.{text_of, utf_16_of}
use Rattle.properties_text.proofs.encoding.decode.decode_utf_16.Given as goal

-- The text so far, followed by the text of the rest, is the text of all bytes.
abbrev pub invariant-loop-rest : goal.invariant-loop-rest
invariant-loop-rest l = record {
  same_room : length l.run ≡ length l.fn.run;
  within : l.at ≤ length l.run;
  onwards : l.start ≤ l.at;
  left : l.at + 4 * length l.rest ≤ l.start + 4 * length l.bytes;
  is_text : IsUtf8 (take l.at l.run);
  text : chars (take l.at l.run) ++ text_of (utf_16_of l.order) l.rest ≡ chars (take l.start l.fn.run) ++ text_of (utf_16_of l.order) l.bytes;
}

abbrev pub decreases-loop-rest : goal.decreases-loop-rest
decreases-loop-rest l = length l.rest
