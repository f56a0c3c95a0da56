-- Finding the lines of undecoded bytes from the front: a line and its end, and then the lines of what follows.
use Rattle.std.proofs.Common.{◌≡◌, ℕ, false, List, [], ◌∷◌, ◌++◌, refl, ap, sym, ◌∙◌, arith}
use Rattle.properties_format.specs.Text.{LineEnding, cr}
use Rattle.properties_format.specs.Lines.{Ended, Lines, BeginsWithNoLoneLf}
use Rattle.properties_format.specs.Encoding.{Encoding, IsAligned}
use Rattle.properties_format.specs.Cut.{units, HoldsNoLineEndingUnit, line_ending_bytes, bytes_together}
use Rattle.properties_format.specs.Computed.Lines.{begins_with_lf}
use Rattle.properties_format.specs.Computed.Cut.{cut_of}
use Rattle.properties_format.proofs.Cut.Units.{units-ascii}
use Rattle.properties_format.proofs.Cut.Only.{cut_of-before}
use Rattle.properties_format.proofs.Cut.Meets.{cut_of-meets}

-- the lines with one more line at the front
abbrev pub line_in_front : List ℕ → LineEnding → Lines → Lines
line_in_front text by lines = record { ended = record { text = text; by = by } ∷ lines.ended; last = lines.last }

-- If no LF unit comes first, the first line isn't an empty one that an LF ends.
no_lone : (e : Encoding) (ls : List Ended) (last : List ℕ) → begins_with_lf (units e (bytes_together e ls last)) ≡ false → BeginsWithNoLoneLf ls
no_lone e [] last h = tt
no_lone e (l ∷ ls) last h = grind (arith, units-ascii)

-- If no LF unit comes first, the first computed line isn't an empty one that an LF ends.
pub cut_of-no_lone : (e : Encoding) (y : List ℕ) → begins_with_lf (units e y) ≡ false → BeginsWithNoLoneLf (cut_of e y).ended
cut_of-no_lone e y h = no_lone e (cut_of e y).ended (cut_of e y).last (sym (ap (λ v. begins_with_lf (units e v)) (cut_of-meets e y).bytes) ∙ h)

-- A line and its end before any bytes; a CR is a line ending by itself only if no LF unit follows.
pub cut_of-line : (e : Encoding) (text : List ℕ) (by : LineEnding) (y : List ℕ) → HoldsNoLineEndingUnit e text → IsAligned e text
    → (by ≡ cr → begins_with_lf (units e y) ≡ false) → cut_of e (text ++ (line_ending_bytes e by ++ y)) ≡ line_in_front text by (cut_of e y)
cut_of-line e text by y h a k = cut_of-before e text by y (cut_of e y).ended (cut_of e y).last h a (λ q. cut_of-no_lone e y (k q)) refl
