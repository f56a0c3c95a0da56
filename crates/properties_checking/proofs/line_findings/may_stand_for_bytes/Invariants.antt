use Rattle.std.proofs.Common.{◌≡◌}
use Rattle.std.specs.{Str.IsUtf8, Str.chars, Str.Iter.chars_rest}
use Rattle.properties_checking.specs.Check.{has_replacement}
use Rattle.properties_checking.proofs.line_findings.may_stand_for_bytes.Given as goal

abbrev pub invariant-loop-character : goal.invariant-loop-character
invariant-loop-character l = record {
  utf8 : IsUtf8 (chars_rest l.character-iterator);
  same : has_replacement (chars l.fn.key) ≡ has_replacement (chars (chars_rest l.character-iterator));
}
