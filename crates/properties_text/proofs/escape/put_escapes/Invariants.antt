use Rattle.std.proofs.Common.{◌≡◌, ◌<◌, ◌≤◌, length, take}
use denote.Text.{Utf8}
use denote.Shadow.{shadow}
use Rattle.std.specs.Str.{IsUtf8, chars}
use Rattle.properties_format.specs.Computed.Escapes.{meaning_of, text_in_front}
use Rattle.properties_text.proofs.escape.put_escapes.Given as goal

-- The characters in the run, followed by what the rest means, are what the text means.
abbrev pub invariant-loop-run : goal.invariant-loop-run
invariant-loop-run l = record {
  utf8 : shadow (Utf8 l.rest);
  same_room : length l.run ≡ length l.fn.run;
  within : l.end ≤ length l.run;
  is_text : IsUtf8 (take l.end l.run);
  meaning : meaning_of (chars l.text) ≡ text_in_front (chars (take l.end l.run)) (meaning_of (chars l.rest));
  left : length l.rest ≤ length l.text;
  shorter : 0 < l.end → length l.rest < length l.text;
  start : l.end ≡ 0 → l.rest ≡ l.text;
}

abbrev pub decreases-loop-run : goal.decreases-loop-run
decreases-loop-run l = length l.rest
