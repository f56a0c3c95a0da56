use Rattle.std.proofs.Common.{◌≡◌, ◌≤◌, ◌+◌, ◌*◌, ◌++◌, length, take}
use Rattle.std.specs.Str.{chars, IsUtf8}
use Rattle.properties_text.specs.Encoding.{text_of}
use Rattle.properties_text.specs.declared.encoding.Encoding.TheVariants.{WINDOWS_1252}
use Rattle.properties_text.proofs.encoding.decode.decode_each.Given as goal

-- The text so far, followed by the text of the rest, is the text of all bytes.
abbrev pub invariant-loop-left : goal.invariant-loop-left
invariant-loop-left l = record {
  same_room : length l.run ≡ length l.fn.run;
  onwards : l.start ≤ l.at;
  end : l.at + 3 * l.left ≤ l.start + 3 * l.count;
  fewer : l.left ≤ l.count;
  rest_is : length l.rest + l.count ≡ length l.bytes + l.left;
  is_text : IsUtf8 (take l.at l.run);
  text : chars (take l.at l.run) ++ text_of WINDOWS_1252 l.rest ≡ chars (take l.start l.fn.run) ++ text_of WINDOWS_1252 l.bytes;
}

abbrev pub decreases-loop-left : goal.decreases-loop-left
decreases-loop-left l = l.left
