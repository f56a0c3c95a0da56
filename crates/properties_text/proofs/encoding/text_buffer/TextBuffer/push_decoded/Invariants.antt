use Rattle.std.proofs.Common.{◌≡◌, ◌≤◌, ◌++◌, length}
use Rattle.std.specs.Str.{chars, IsUtf8}
use Rattle.properties_text.specs.Encoding.{text_of}
use Rattle.properties_text.proofs.encoding.text_buffer.TextBuffer.push_decoded.Given as goal

-- The text so far, followed by the text of the rest, is the old text followed by the text of all bytes.
abbrev pub invariant-loop-rest : goal.invariant-loop-rest
invariant-loop-rest l = record {
  text : chars l.self ++ text_of l.encoding l.rest ≡ chars l.fn.self ++ text_of l.encoding l.bytes;
  longer : length l.fn.self ≤ length l.self;
  utf8 : IsUtf8 l.self;
}

abbrev pub decreases-loop-rest : goal.decreases-loop-rest
decreases-loop-rest l = length l.rest
