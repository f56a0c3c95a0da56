-- Where a text may be cut so that the lines of the two parts are the lines of the whole: anywhere except between a CR
-- and an LF.
use Rattle.std.proofs.Common.{arith, ◌≡◌, ℕ, true, false, List, [], ◌∷◌, ◌++◌, refl}
use Rattle.properties_format.specs.Text.{LineEnding, cr, line_ending_text}
use Rattle.properties_format.specs.Lines.{Ended, Lines, put_together, AreLines}
use Rattle.properties_format.specs.Computed.Lines.{begins_with_lf, ends_in_cr, lines_of}
use Rattle.properties_format.proofs.Lines.Meets.{lines_of-meets}
use Rattle.properties_format.proofs.Lines.Plain.{no_lf_first, ends_in_cr-append, ends-after, regroup}
use Rattle.properties_format.proofs.Lines.Steps.{lines_of-line}

-- no CR at the end of the first text is separated from an LF at the front of the second
abbrev pub PartsNoEnd : List ℕ → List ℕ → Type 0
PartsNoEnd x y = ends_in_cr x ≡ true → begins_with_lf y ≡ false

-- If a cut separates no CR from an LF, it still separates none without the first line and its end.
after-line : (text : List ℕ) (by : LineEnding) (x y : List ℕ) → (by ≡ cr → begins_with_lf x ≡ false) → PartsNoEnd (text ++ (line_ending_text by ++ x)) y
    → (by ≡ cr → begins_with_lf (x ++ y) ≡ false) × PartsNoEnd x y
after-line text by x y h1 h2 = grind (arith, ends_in_cr-append, ends-after)

-- the lines, followed by those of the last one and what follows it
abbrev pub lines_on : List Ended → Lines → Lines
lines_on ls lines = record { ended = ls ++ lines.ended; last = lines.last }

-- The lines of a text and of what follows it: its ended lines, followed by those of its last line and what follows.
of-lines : (ls : List Ended) (last y : List ℕ) → AreLines ls last → PartsNoEnd (put_together ls last) y
    → lines_of (put_together ls last ++ y) ≡ lines_on ls (lines_of (last ++ y))
of-lines [] last y h k = refl
of-lines (l ∷ ls) last y h k =
    let both = after-line l.text l.by (put_together ls last) y (λ e. no_lf_first ls last h.2 (h.1 e)) k in
    search (regroup, lines_of-line, of-lines ls last y h.2 both.1)

-- The lines of a whole, given those of its parts; the last line of the first part is the beginning of the second part's
-- first line.
pub lines_of-append : (x y : List ℕ) → PartsNoEnd x y → lines_of (x ++ y) ≡ lines_on (lines_of x).ended (lines_of ((lines_of x).last ++ y))
lines_of-append x y h =
    let m = lines_of-meets x in
    grind (arith, of-lines)
