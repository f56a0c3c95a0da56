-- The last line ending of a body.
use Rattle.std.proofs.Common.{arith, ◌≡◌, ℕ, List, [], ◌∷◌, refl, ◌∙◌}
use Rattle.std.specs.Prelude.{unwrap_or}
use Rattle.properties_format.specs.Text.{LineEnding}
use Rattle.properties_format.specs.Encoding.{Encoding}
use Rattle.properties_format.specs.Lines.{Ended}
use Rattle.properties_format.specs.Computed.Body.{held_of}
use Rattle.properties_format.specs.Valued.{ending_among}
use Rattle.properties_format.proofs.Valued.Lined.{last_by}

-- The last of the line endings.
pub ending-held : (e : Encoding) (by : LineEnding) (ls : List Ended) (last : List ℕ) → ending_among by (held_of e ls last) ≡ unwrap_or (last_by ls) by
ending-held e by (l ∷ m ∷ ls) last = ending-held e l.by (m ∷ ls) last ∙ same m ls
  where
    same : (m : Ended) (ls : List Ended) → unwrap_or (last_by (m ∷ ls)) l.by ≡ unwrap_or (last_by (m ∷ ls)) by
    same m [] = refl
    same m (n ∷ ls) = same n ls
ending-held e by ls last = grind (arith)
