-- The lines, given the next line ending or the next character.
use Rattle.std.proofs.Common.{rules, arith, ◌≡◌, ℕ, ◌+◌, Bool, true, false, List, [], ◌∷◌, ◌++◌, refl, ap, sym, inl, inr, append_assoc, append-nil}
use Rattle.std.specs.Prelude.{if◌then◌else◌}
use Rattle.std.proofs.lemmas.Bool.Decides.{eqb_tells}
use Rattle.properties_format.specs.Text.{line_feed, carriage_return, LineEnding, cr, crlf, line_ending_text}
use Rattle.properties_format.specs.Lines.{HoldsNoLineEnding, InputEnd, end}
use Rattle.properties_format.specs.Computed.Lines.{begins_with_lf, without_leading_lf, lines_of, lines_to_come}
use Rattle.properties_format.proofs.Lines.Only.{lines_of-plain, lines_of-before}
use Rattle.properties_format.proofs.Lines.Plain.{plain-append, lines_of-no_lone_lf, without_leading_lf-none}

-- A line and its end before any text; a CR is a line ending by itself only if no LF follows.
pub lines_of-line : (text : List ℕ) (by : LineEnding) (y : List ℕ) → HoldsNoLineEnding text → (by ≡ cr → begins_with_lf y ≡ false)
    → lines_of (text ++ (line_ending_text by ++ y)) ≡ record { ended = record { text = text; by = by } ∷ (lines_of y).ended; last = (lines_of y).last }
lines_of-line text by y h k = lines_of-before text by y (lines_of y).ended (lines_of y).last h (λ e. lines_of-no_lone_lf y (k e)) refl

-- the line ending that a CR is, or is a part of
abbrev pub cr_end : List ℕ → LineEnding
cr_end y = if begins_with_lf y then crlf else cr

-- A line and a CR before any text.
pub lines_of-cr : (text y : List ℕ) → HoldsNoLineEnding text
    → lines_of (text ++ carriage_return ∷ y)
    ≡ record { ended = record { text = text; by = cr_end y } ∷ (lines_of (without_leading_lf y)).ended; last = (lines_of (without_leading_lf y)).last }
lines_of-cr text [] h = lines_of-line text cr [] h (λ e. refl)
lines_of-cr text (c ∷ y) h = elim (eqb_tells c line_feed) [
  | inl k ↦ rw k.1 (lines_of-line text crlf y h (λ e. absurd (cc)))
  | inr k ↦ rw k.0 (lines_of-line text cr (c ∷ y) h (λ e. k.0))
]

-- ---- the numbered lines to come

-- If the input ends, the line that is held is the last one.
pub lines_to_come-end : (n : ℕ) (after_cr : Bool) (held : List ℕ) → HoldsNoLineEnding held
    → lines_to_come n after_cr held [] end ≡ record { number = n + 1; text = held } ∷ []
lines_to_come-end n after_cr held h = search (rules, append-nil, lines_of-plain)

-- If no LF comes first, a CR before it doesn't matter.
pub lines_to_come-no_lf : (n : ℕ) (after_cr : Bool) (held y : List ℕ) (e : InputEnd) → begins_with_lf y ≡ false
    → lines_to_come n after_cr held y e ≡ lines_to_come n false held y e
lines_to_come-no_lf n after_cr held y e h1 = grind (arith, without_leading_lf-none)

-- Whether characters are held or still to come doesn't matter.
pub lines_to_come-held : (n : ℕ) (held x y : List ℕ) (e : InputEnd) → lines_to_come n false held (x ++ y) e ≡ lines_to_come n false (held ++ x) y e
lines_to_come-held n held x y e = ap (λ v. lines_to_come n false [] v e) (sym (append_assoc held x y))

-- A CR ends the line that is held, and an LF after the CR belongs to the same line ending.
pub lines_to_come-cr : (n : ℕ) (after_cr : Bool) (held y : List ℕ) (e : InputEnd) → HoldsNoLineEnding held
    → lines_to_come n after_cr held (carriage_return ∷ y) e ≡ record { number = n + 1; text = held } ∷ lines_to_come (n + 1) true [] y e
lines_to_come-cr n after_cr held y e h = simp (lines_to_come-no_lf, lines_of-cr)

-- A whole line ending ends the line that is held.
pub lines_to_come-line : (n : ℕ) (held text : List ℕ) (by : LineEnding) (y : List ℕ) (e : InputEnd) → HoldsNoLineEnding held → HoldsNoLineEnding text
    → (by ≡ cr → begins_with_lf y ≡ false)
    → lines_to_come n false held (text ++ (line_ending_text by ++ y)) e ≡ record { number = n + 1; text = held ++ text } ∷ lines_to_come (n + 1) false [] y e
lines_to_come-line n held text by y e h k m = simp (lines_to_come-held, lines_of-line, plain-append)
