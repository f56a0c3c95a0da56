use Rattle.std.proofs.Common.{◌≡◌, ◌&&◌}
use Rattle.std.specs.Str.{IsUtf8, chars}
use Rattle.std.specs.Str.Iter.{chars_rest}
use Rattle.properties_format.specs.Computed.Settings.{is_good_separator}
use Rattle.java_properties.proofs.Settings.Tests.{holds_some, separator_left}
use Rattle.java_properties.proofs.writer.settings.is_good_separator.Given as goal

abbrev pub invariant-loop-character : goal.invariant-loop-character
invariant-loop-character l = record {
  utf8 : IsUtf8 (chars_rest l.character-iterator);
  same : is_good_separator (chars l.fn.text) ≡ (holds_some (chars l.fn.text) && separator_left l.signed (chars (chars_rest l.character-iterator)));
}
