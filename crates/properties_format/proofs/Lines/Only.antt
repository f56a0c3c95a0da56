-- A text has exactly one list of lines, and a line before a text is a line before its lines.
use Rattle.std.proofs.Common.{arith, ◌≡◌, ℕ, List, [], ◌∷◌, ◌++◌, refl, ap, sym, ◌∙◌}
use Rattle.properties_format.specs.Text.{LineEnding, lf, cr, line_ending_text}
use Rattle.properties_format.specs.Lines.{Ended, Lines, put_together, HoldsNoLineEnding, BeginsWithNoLoneLf, AreLines, IsLines}
use Rattle.properties_format.specs.Computed.Lines.{end_before, cr_before, before, lines_of}
use Rattle.properties_format.proofs.Lines.Meets.{before-plain}

-- A text without line endings is one line.
pub lines_of-plain : (l : List ℕ) → HoldsNoLineEnding l → lines_of l ≡ record { ended = []; last = l }
lines_of-plain [] h = refl
lines_of-plain (c ∷ l) h = ap (before c) (lines_of-plain l h.1) ∙ before-plain c (record { ended = []; last = l }) h.0

-- A CR ends an empty line, if the line after it isn't an empty one that an LF ends.
cr-before-line : (text : List ℕ) (by : LineEnding) (ls : List Ended) → ¬ ((text ≡ []) × (by ≡ lf))
    → cr_before (record { text = text; by = by } ∷ ls) ≡ end_before cr (record { text = text; by = by } ∷ ls)
cr-before-line text by ls h1 = grind (arith)

-- A CR takes only the LF of an empty line that an LF ends.
pub cr-before : (ls : List Ended) → BeginsWithNoLoneLf ls → cr_before ls ≡ end_before cr ls
cr-before ls h1 = grind (arith, cr-before-line)

-- A line and its end before a text whose lines are known.
pub lines_of-before : (text : List ℕ) (by : LineEnding) (y : List ℕ) (ls : List Ended) (last : List ℕ)
    → HoldsNoLineEnding text → (by ≡ cr → BeginsWithNoLoneLf ls) → lines_of y ≡ record { ended = ls; last = last }
    → lines_of (text ++ (line_ending_text by ++ y)) ≡ record { ended = record { text = text; by = by } ∷ ls; last = last }
lines_of-before (c ∷ text) by y ls last h k e =
    ap (before c) (lines_of-before text by y ls last h.1 k e) ∙ before-plain c (record { ended = record { text = text; by = by } ∷ ls; last = last }) h.0
lines_of-before text by y ls last h1 h2 h3 = grind (arith, cr-before)

-- Lines that are put together are the lines of the resulting text.
pub lines_of-together : (ls : List Ended) (last : List ℕ) → AreLines ls last → lines_of (put_together ls last) ≡ record { ended = ls; last = last }
lines_of-together [] last h = lines_of-plain last h
lines_of-together (l ∷ ls) last h = lines_of-before l.text l.by (put_together ls last) ls last h.0 h.1 (lines_of-together ls last h.2)

-- Lines of the text are the computed ones.
pub lines_of-only : (x : List ℕ) (lines : Lines) → IsLines x lines → lines ≡ lines_of x
lines_of-only x lines h = sym (ap lines_of h.text ∙ lines_of-together lines.ended lines.last h.are_lines)
