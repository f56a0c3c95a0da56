-- Texts without line endings, and what the lines of a text say about its first and its last character.
use Rattle.std.proofs.Common.{rules, ◌≡◌, ℕ, false, List, [], ◌∷◌, ◌++◌, refl, ap, ◌∙◌, suc, ◌+◌, append_assoc, arith}
use Rattle.std.proofs.lemmas.Bool.{or_parts}
use Rattle.properties_format.specs.Text.{line_feed, carriage_return, LineEnding, line_ending_text}
use Rattle.properties_format.specs.Lines.{Ended, put_together, HoldsNoLineEnding, BeginsWithNoLoneLf, AreLines}
use Rattle.properties_format.specs.Computed.Lines.{begins_with_lf, ends_in_cr, without_leading_lf, lines_of}
use Rattle.properties_format.proofs.Lines.Meets.{lines_of-meets}

-- Two texts without line endings have none together.
pub plain-append : (x y : List ℕ) → HoldsNoLineEnding x → HoldsNoLineEnding y → HoldsNoLineEnding (x ++ y)
plain-append [] y h k = k
plain-append (c ∷ x) y h k = (h.0, plain-append x y h.1 k)

-- The front of a text without line endings has none.
pub plain-left : (x y : List ℕ) → HoldsNoLineEnding (x ++ y) → HoldsNoLineEnding x
plain-left [] y h = tt
plain-left (c ∷ x) y h = (h.0, plain-left x y h.1)

-- The rest of a text without line endings has none.
pub plain-right : (x y : List ℕ) → HoldsNoLineEnding (x ++ y) → HoldsNoLineEnding y
plain-right [] y h = h
plain-right (c ∷ x) y h = plain-right x y h.1

-- The last of a text's lines contains no line ending.
pub plain-last : (ls : List Ended) (last : List ℕ) → AreLines ls last → HoldsNoLineEnding last
plain-last [] last h = h
plain-last (l ∷ ls) last h = plain-last ls last h.2

pub last-plain : (x : List ℕ) → HoldsNoLineEnding (lines_of x).last
last-plain x = plain-last (lines_of x).ended (lines_of x).last (lines_of-meets x).are_lines

-- A text without line endings doesn't begin with an LF.
pub plain-no_lf : (x : List ℕ) → HoldsNoLineEnding x → begins_with_lf x ≡ false
plain-no_lf x h = grind (arith)

-- A text without line endings doesn't end in a CR.
pub plain-no_cr : (x : List ℕ) → HoldsNoLineEnding x → ends_in_cr x ≡ false
plain-no_cr (c ∷ d ∷ ds) h = plain-no_cr (d ∷ ds) h.1
plain-no_cr x h1 = grind (arith, or_parts)

-- If the first line isn't an empty one that an LF ends, no LF comes first.
pub no_lf_first : (ls : List Ended) (last : List ℕ) → AreLines ls last → BeginsWithNoLoneLf ls → begins_with_lf (put_together ls last) ≡ false
no_lf_first ls last h1 h2 = grind (arith, plain-no_lf)

-- If no LF comes first in a text, the first of its lines isn't an empty one that an LF ends.
pub lines_of-no_lone_lf : (y : List ℕ) → begins_with_lf y ≡ false → BeginsWithNoLoneLf (lines_of y).ended
lines_of-no_lone_lf y h = search (rules)

-- A text that doesn't begin with an LF has none to lose.
pub without_leading_lf-none : (y : List ℕ) → begins_with_lf y ≡ false → without_leading_lf y ≡ y
without_leading_lf-none y h = grind (arith)

-- A text ends as its last part ends.
pub ends_in_cr-append : (x : List ℕ) (c : ℕ) (y : List ℕ) → ends_in_cr (x ++ c ∷ y) ≡ ends_in_cr (c ∷ y)
ends_in_cr-append (b ∷ d ∷ x) c y = ends_in_cr-append (d ∷ x) c y
ends_in_cr-append x c y = refl

-- A text with characters after a line ending ends in a CR exactly if those characters do.
pub ends-after : (text : List ℕ) (by : LineEnding) (c : ℕ) (x : List ℕ) → ends_in_cr (text ++ (line_ending_text by ++ c ∷ x)) ≡ ends_in_cr (c ∷ x)
ends-after text by c x = grind (arith, ends_in_cr-append)

-- A text ends in a CR exactly if what follows an LF in it does.
pub ends-lf : (text : List ℕ) (x : List ℕ) → ends_in_cr (text ++ line_feed ∷ x) ≡ ends_in_cr x
ends-lf text x = grind (arith, ends_in_cr-append)

-- A text ends in a CR exactly if what follows a CR LF in it does.
pub ends-crlf : (text : List ℕ) (x : List ℕ) → ends_in_cr (text ++ carriage_return ∷ line_feed ∷ x) ≡ ends_in_cr x
ends-crlf text x = grind (arith, ends_in_cr-append)

-- ---- regrouping sums and texts

-- (n + 1) + m equals n + (m + 1).
pub one-more : (n m : ℕ) → n + 1 + m ≡ n + suc m
one-more n m = omega arith

-- A line, its end and what follows, all before more text, are the line and its end before the rest.
pub regroup : (text : List ℕ) (by : LineEnding) (whole y : List ℕ)
    → (text ++ (line_ending_text by ++ whole)) ++ y ≡ text ++ (line_ending_text by ++ (whole ++ y))
regroup text by whole y = append_assoc text (line_ending_text by ++ whole) y ∙ ap (λ v. text ++ v) (append_assoc (line_ending_text by) whole y)
