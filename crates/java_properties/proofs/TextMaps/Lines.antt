-- Pairs that a writer with any settings writes, one after another.
use Rattle.std.proofs.Common.{◌≡◌, ◌+◌, false, List, [], ◌∷◌, ◌++◌, length, ap, ◌∙◌, arith}
use Rattle.std.specs.Prelude.{map}
use Rattle.std.specs.Str.{chars}
use Rattle.std.proofs.lemmas.List.{map-append, length-append}
use Rattle.counted_io.specs.Streams.{Sink}
use Rattle.properties_format.specs.Items.{pair}
use Rattle.properties_format.specs.Writing.{AreAccepted}
use Rattle.properties_format.specs.Settings.{Settings}
use Rattle.java_properties.specs.PropertiesWriter.{Writing, HasWrittenLine}
use Rattle.java_properties.specs.Calls.{HasMade}
use Rattle.java_properties.specs.Maps.{Texts, calls_for, character_pair}
use Rattle.java_properties.proofs.Calls.Made.{made-none, made-more, pair-made}

-- No write failed before. Each of these pairs was accepted and written as one line, in order, and was counted. Nothing
-- else changed.
pub record HasWrittenLines {W : Type 0} (sink : Sink W) (old : Writing W) (pairs : List Texts) (new : Writing W) : Type 0 where
  pub live : old.failed ≡ false
  pub accepted : AreAccepted old.settings (map character_pair pairs)
  pub made : HasMade sink old (calls_for pairs) new
  pub after : new ≡ record old { sink = new.sink; lines = old.lines + length pairs }

accepted-append : (s : Settings) (xs ys : List Texts) → AreAccepted s (map character_pair xs) → AreAccepted s (map character_pair ys)
    → AreAccepted s (map character_pair (xs ++ ys))
accepted-append s [] ys h k = k
accepted-append s (x ∷ xs) ys h k = (h.0, accepted-append s xs ys h.1 k)

module _ {W : Type 0} {sink : Sink W} where
  -- no line yet
  pub lines-none : (w : Writing W) → w.failed ≡ false → HasWrittenLines sink w [] w
  lines-none w live =
      let same : w.lines ≡ w.lines + 0 = omega arith in
      record { live = live; accepted = tt; made = made-none w; after = ap (λ n. record w { lines = n }) same }

  -- one line more
  pub lines-more : {old middle new : Writing W} {pairs : List Texts} (texts : Texts) → HasWrittenLines sink old pairs middle
      → HasWrittenLine sink middle (pair (chars texts.0) (chars texts.1)) new → HasWrittenLines sink old (pairs ++ (texts ∷ [])) new
  lines-more {old = old} {new = new} {pairs = pairs} texts h line =
      let all = length-append pairs (texts ∷ []) in
      let count : old.lines + length pairs + 1 ≡ old.lines + length (pairs ++ (texts ∷ [])) = omega (arith, all) in
      record {
        live = h.live;
        accepted = accepted-append old.settings pairs (texts ∷ []) h.accepted (rw h.after at line.takes.accepted, tt);
        made = rw map-append (made-more h.made (pair-made (chars texts.0) (chars texts.1) line));
        after =
            line.after
            ∙ ap (λ (w : Writing W). record w { sink = new.sink; lines = w.lines + 1 }) h.after
            ∙ ap (λ n. record old { sink = new.sink; lines = n }) count;
      }
