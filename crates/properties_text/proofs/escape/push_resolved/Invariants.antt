use Rattle.std.proofs.Common.{length, string_bytes}
use Rattle.std.specs.Str.{chars, IsUtf8}
use Rattle.properties_text.proofs.Texts.Resolving.{IsResolvedTo}
use Rattle.properties_text.proofs.escape.push_resolved.Given as goal

abbrev pub invariant-loop-at : goal.invariant-loop-at
invariant-loop-at l = record {
  utf8 : IsUtf8 l.rest;
  resolved : IsResolvedTo (chars l.s) (chars (string_bytes l.fn.text)) (chars (string_bytes l.text)) (chars l.rest);
}

abbrev pub decreases-loop-at : goal.decreases-loop-at
decreases-loop-at l = length l.rest
