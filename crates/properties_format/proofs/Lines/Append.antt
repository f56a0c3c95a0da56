-- The lines of two texts, one after the other: the lines that the first text ends stay.
use Rattle.std.proofs.Common.{arith, ◌≡◌, ℕ, ◌+◌, ◌==◌, false, List, [], ◌∷◌, ◌++◌, length, refl, ap, ◌∙◌, add-zero}
use Rattle.properties_format.specs.Text.{line_feed, carriage_return, LineEnding, lf, cr, crlf, line_ending_text}
use Rattle.properties_format.specs.Lines.{Ended, put_together, HoldsNoLineEnding, BeginsWithNoLoneLf, AreLines, InputEnd, more, line_endings, numbered}
use Rattle.properties_format.specs.Computed.Lines.{begins_with_lf, ends_in_cr, lines_of, lines_to_come}
use Rattle.properties_format.proofs.Lines.Meets.{lines_of-meets}
use Rattle.properties_format.proofs.Lines.Plain.{one-more, regroup, plain-no_cr, no_lf_first, ends_in_cr-append, ends-after, ends-lf, ends-crlf}
use Rattle.properties_format.proofs.Lines.Steps.{lines_to_come-cr, lines_to_come-line}

-- ---- the numbered lines

-- the lines of a text that more follows, if the text is given by its lines
Goes : List Ended → List ℕ → Type 0
Goes ls last = (n : ℕ) (y : List ℕ) (e : InputEnd)
    → lines_to_come n false [] (put_together ls last ++ y) e ≡ numbered n ls last more ++ lines_to_come (n + length ls) (ends_in_cr (put_together ls last)) last y e

-- A last line without a line ending.
goes-last : (last : List ℕ) → HoldsNoLineEnding last → Goes [] last
unfolding Goes
goes-last last h n y e = rw (plain-no_cr last h, add-zero n) refl

-- A line whose end doesn't depend on what follows.
goes-line : (text : List ℕ) (by : LineEnding) (ls : List Ended) (last : List ℕ) → HoldsNoLineEnding text
    → ((y : List ℕ) → by ≡ cr → begins_with_lf (put_together ls last ++ y) ≡ false)
    → ends_in_cr (text ++ (line_ending_text by ++ put_together ls last)) ≡ ends_in_cr (put_together ls last)
    → Goes ls last → Goes (record { text = text; by = by } ∷ ls) last
unfolding Goes
goes-line text by ls last h k m goes n y e =
    ap (λ v. lines_to_come n false [] v e) (regroup text by (put_together ls last) y)
    ∙ lines_to_come-line n [] text by (put_together ls last ++ y) e tt h (k y)
    ∙ ap (λ v. record { number = n + 1; text = text } ∷ v) (goes (n + 1) y e)
    ∙ rw (m, one-more n (length ls)) refl

-- A CR at the end of the text.
goes-cr : (text : List ℕ) → HoldsNoLineEnding text → Goes (record { text = text; by = cr } ∷ []) []
unfolding Goes
goes-cr text h n y e = cc (regroup text cr [] y, lines_to_come-cr n false text y e h, ends_in_cr-append text carriage_return [])

-- A CR that no LF follows ends its line, before a text that isn't empty.
goes-cr-on : (text : List ℕ) (ls : List Ended) (last : List ℕ) (c : ℕ) (x : List ℕ) → put_together ls last ≡ c ∷ x → (c == line_feed) ≡ false
    → HoldsNoLineEnding text → Goes ls last → Goes (record { text = text; by = cr } ∷ ls) last
goes-cr-on text ls last c x is_some no_lf h goes = goes-line text cr ls last h (λ y e. rw is_some no_lf) (rw is_some (ends-after text cr c x)) goes

-- This holds whether or not the rest is empty.
goes-cr-rest : (text : List ℕ) (ls : List Ended) (last : List ℕ) → HoldsNoLineEnding text → AreLines ls last → BeginsWithNoLoneLf ls → Goes ls last
    → Goes (record { text = text; by = cr } ∷ ls) last
goes-cr-rest text [] [] h are none goes = goes-cr text h
goes-cr-rest text [] (c ∷ cs) h are none goes = goes-cr-on text [] (c ∷ cs) c cs refl (no_lf_first [] (c ∷ cs) are none) h goes
goes-cr-rest text (l ∷ ls) last h are none goes = of_line l.text l.by refl
  where
    k : begins_with_lf (put_together (l ∷ ls) last) ≡ false
    k = no_lf_first (l ∷ ls) last are none

    of_line : (t : List ℕ) (by : LineEnding) → l ≡ record { text = t; by = by } → Goes (record { text = text; by = cr } ∷ l ∷ ls) last
    of_line (c ∷ t) by e = goes-cr-on text (l ∷ ls) last c _ (ap (λ v. put_together (v ∷ ls) last) e) (rw e at k) h goes
    of_line [] lf e = goes-cr-on text (l ∷ ls) last line_feed (put_together ls last) (ap (λ v. put_together (v ∷ ls) last) e) (rw e at k) h goes
    of_line [] cr e = goes-cr-on text (l ∷ ls) last carriage_return (put_together ls last) (ap (λ v. put_together (v ∷ ls) last) e) (rw e at k) h goes
    of_line [] crlf e = goes-cr-on text (l ∷ ls) last carriage_return _ (ap (λ v. put_together (v ∷ ls) last) e) (rw e at k) h goes

-- Any line with its end, before lines for which this holds.
goes-any : (text : List ℕ) (by : LineEnding) (ls : List Ended) (last : List ℕ) → HoldsNoLineEnding text → (by ≡ cr → BeginsWithNoLoneLf ls) → AreLines ls last
    → Goes ls last → Goes (record { text = text; by = by } ∷ ls) last
goes-any text by ls last h1 h2 h3 h4 = grind (arith, goes-line, ends-lf, goes-cr-rest, ends-crlf)

-- This holds for all lines of a text.
goes : (ls : List Ended) (last : List ℕ) → AreLines ls last → Goes ls last
goes [] last h = goes-last last h
goes (l ∷ ls) last h = goes-any l.text l.by ls last h.0 h.1 h.2 (goes ls last h.2)

-- The lines of a text that more follows: those that the text ends, followed by those of its last line and what comes.
pub lines_to_come-append : (n : ℕ) (x y : List ℕ) (e : InputEnd)
    → lines_to_come n false [] (x ++ y) e
    ≡ lines_to_come n false [] x more ++ lines_to_come (n + line_endings (lines_of x)) (ends_in_cr x) (lines_of x).last y e
unfolding Goes
lines_to_come-append n x y e =
    let m = lines_of-meets x in
    grind (arith, goes)
