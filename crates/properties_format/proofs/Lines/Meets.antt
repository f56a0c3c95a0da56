-- The computed lines of a text are its lines.
use Rattle.std.proofs.Common.{rules, arith, ◌≡◌, ℕ, false, List, [], ◌∷◌, refl}
use Rattle.std.proofs.lemmas.Bool.{or_from, or_parts}
use Rattle.std.proofs.lemmas.Bool.Decides.{eqb_tells}
use Rattle.properties_format.specs.Text.{carriage_return, is_line_ending}
use Rattle.properties_format.specs.Lines.{Ended, Lines, IsLines}
use Rattle.properties_format.specs.Computed.Lines.{cr_before, character_before, before, lines_of}

-- A character that ends no line is neither a CR nor an LF.
pub before-plain : (c : ℕ) (lines : Lines) → is_line_ending c ≡ false → before c lines ≡ character_before c lines.ended lines.last
before-plain c lines h = grind (arith, or_parts)

-- A CR before any lines, or before none.
cr-meets : (ended : List Ended) (last x : List ℕ) → IsLines x (record { ended = ended; last = last })
    → IsLines (carriage_return ∷ x) (record { ended = cr_before ended; last = last })
cr-meets ended last x h1 = search rules

-- Any character before any lines.
before-meets : (c : ℕ) (x : List ℕ) (lines : Lines) → IsLines x lines → IsLines (c ∷ x) (before c lines)
before-meets c x lines h = search (rules, eqb_tells, cr-meets, or_from, before-plain)

-- The computed lines are lines of the text.
pub lines_of-meets : (x : List ℕ) → IsLines x (lines_of x)
lines_of-meets [] = record { text = refl; are_lines = tt }
lines_of-meets (c ∷ cs) = before-meets c cs (lines_of cs) (lines_of-meets cs)
