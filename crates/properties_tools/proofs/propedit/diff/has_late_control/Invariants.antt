use Rattle.std.proofs.Common.{◌≡◌}
use Rattle.std.specs.{Str.IsUtf8, Str.chars, Str.Iter.chars_rest}
use Rattle.properties_tools.specs.Propedit.Differences.{has_late_control}
use Rattle.properties_tools.proofs.propedit.diff.has_late_control.Given as goal

abbrev pub invariant-loop-character : goal.invariant-loop-character
invariant-loop-character l = record {
  utf8 : IsUtf8 (chars_rest l.character-iterator);
  same : has_late_control (chars l.fn.text) ≡ has_late_control (chars (chars_rest l.character-iterator));
}
