-- The lines of bytes whose units are two bytes each.
use Rattle.std.proofs.Common.{◌≡◌, ℕ, ◌%◌, false, List, [], ◌∷◌, ◌++◌, length, refl, ap, ◌∙◌, arith}
use Rattle.std.proofs.lemmas.Bool.{cond-false}
use Rattle.properties_format.specs.Text.{line_feed, carriage_return, is_line_ending, LineEnding, cr}
use Rattle.properties_format.specs.Lines.{Ended, Lines, HoldsNoLineEnding, BeginsWithNoLoneLf}
use Rattle.properties_format.specs.Computed.Lines.{end_before, before}
use Rattle.properties_format.specs.Encoding.{Encoding, ascii_bytes}
use Rattle.properties_format.specs.Cut.{units_of_two, line_ending_bytes}
use Rattle.properties_format.specs.Computed.Cut.{two_before, unit_before, cut_of_two}
use Rattle.properties_format.proofs.Lines.Only.{cr-before}

-- In this encoding, a CR or an LF is one unit.
pub record ReadsEnds (e : Encoding) (unit : ℕ → ℕ → ℕ) : Type 0 where
  pub lf_first : (y : List ℕ) → cut_of_two unit (ascii_bytes e line_feed ++ y) ≡ before line_feed (cut_of_two unit y)
  pub cr_first : (y : List ℕ) → cut_of_two unit (ascii_bytes e carriage_return ++ y) ≡ before carriage_return (cut_of_two unit y)

-- A unit that isn't a CR or an LF is two bytes of the first line.
pub unit-plain : (u a b : ℕ) (lines : Lines) → is_line_ending u ≡ false → unit_before u a b lines ≡ two_before a b lines
unit-plain u a b lines h = cond-false (is_line_ending u) (before u lines) (two_before a b lines) h

-- Bytes without a line ending unit are one line.
pub two-plain : (unit : ℕ → ℕ → ℕ) (d : List ℕ) → HoldsNoLineEnding (units_of_two unit d) → cut_of_two unit d ≡ record { ended = []; last = d }
two-plain unit (a ∷ b ∷ d) h = ap (unit_before (unit a b) a b) (two-plain unit d h.1) ∙ unit-plain (unit a b) a b (record { ended = []; last = d }) h.0
two-plain unit d h = refl

-- A line ending at the front.
two-end : (e : Encoding) (unit : ℕ → ℕ → ℕ) (by : LineEnding) (y : List ℕ) (ls : List Ended) (last : List ℕ) → ReadsEnds e unit
    → (by ≡ cr → BeginsWithNoLoneLf ls) → cut_of_two unit y ≡ record { ended = ls; last = last }
    → cut_of_two unit (line_ending_bytes e by ++ y) ≡ record { ended = end_before by ls; last = last }
two-end e unit by y ls last h k m = grind (arith, cr-before)

-- A line and its end before bytes whose lines are known.
pub two-line : (e : Encoding) (unit : ℕ → ℕ → ℕ) (text : List ℕ) (by : LineEnding) (y : List ℕ) (ls : List Ended) (last : List ℕ) → ReadsEnds e unit
    → HoldsNoLineEnding (units_of_two unit text) → length text % 2 ≡ 0 → (by ≡ cr → BeginsWithNoLoneLf ls) → cut_of_two unit y ≡ record { ended = ls; last = last }
    → cut_of_two unit (text ++ (line_ending_bytes e by ++ y)) ≡ record { ended = record { text = text; by = by } ∷ ls; last = last }
two-line e unit [] by y ls last r p a k h = two-end e unit by y ls last r k h
two-line e unit (c ∷ []) by y ls last r p a k h = absurd (omega arith)
two-line e unit (c ∷ d ∷ text) by y ls last r p a k h = grind (arith, two-line e unit text by y ls last r p.1 (omega arith) k h)
