-- The computed lines of some bytes are lines of these bytes.
use Rattle.std.proofs.Common.{◌≡◌, ℕ, ◌%◌, ◌==◌, ◌<◌, false, List, [], ◌∷◌, ◌++◌, length, refl, ap₂, sym, ◌∙◌, subst, inl, inr, arith, lit<, eqb-true}
use Rattle.std.proofs.lemmas.Bool.{cases_Bool, or_cases}
use Rattle.properties_format.specs.Text.{line_feed, carriage_return, is_line_ending, LineEnding, lf, cr, line_ending_text}
use Rattle.properties_format.specs.Lines.{Ended, Lines, put_together, HoldsNoLineEnding, BeginsWithNoLoneLf, AreLines, IsLines}
use Rattle.properties_format.specs.Utf16.{low_first, high_first}
use Rattle.properties_format.specs.Encoding.{Encoding, windows_1252, utf_8, utf_16le, utf_16be, IsAligned, ascii_bytes}
use Rattle.properties_format.specs.Cut.{units_of_two, HoldsNoLineEndingUnit, line_ending_bytes, bytes_together, AreCut, IsCut}
use Rattle.properties_format.specs.Computed.Lines.{end_before, cr_before, lines_of}
use Rattle.properties_format.specs.Computed.Cut.{two_before, unit_before, cut_of_two, cut_of}
use Rattle.properties_format.proofs.Lines.Meets.{lines_of-meets}
use Rattle.properties_format.proofs.Cut.Two.{unit-plain}
use Rattle.properties_format.proofs.Cut.Only.{ending-windows_1252, ending-utf_8}

-- ---- If units are bytes.

module _ (e : Encoding) (same : (by : LineEnding) → line_ending_bytes e by ≡ line_ending_text by)
    (none : (d : List ℕ) → HoldsNoLineEnding d → HoldsNoLineEndingUnit e d) (whole : (d : List ℕ) → IsAligned e d) where
  one-together : (ls : List Ended) (last : List ℕ) → put_together ls last ≡ bytes_together e ls last
  one-together [] last = refl
  one-together (l ∷ ls) last = ap₂ (λ v w. l.text ++ (v ++ w)) (sym (same l.by)) (one-together ls last)

  one-cut : (ls : List Ended) (last : List ℕ) → AreLines ls last → AreCut e ls last
  one-cut [] last h = none last h
  one-cut (l ∷ ls) last h = (none l.text h.0, whole l.text, h.1, one-cut ls last h.2)

  one-meets : (d : List ℕ) (lines : Lines) → IsLines d lines → IsCut e d lines
  one-meets d lines h = record { bytes = h.text ∙ one-together lines.ended lines.last; are_cut = one-cut lines.ended lines.last h.are_lines }

-- ---- If units are two bytes each.

-- In this encoding, units are two bytes each, and a CR or an LF has its bytes.
record IsOfTwo (e : Encoding) (unit : ℕ → ℕ → ℕ) : Type 0 where
  none : (d : List ℕ) → HoldsNoLineEnding (units_of_two unit d) → HoldsNoLineEndingUnit e d
  units : (d : List ℕ) → HoldsNoLineEndingUnit e d → HoldsNoLineEnding (units_of_two unit d)
  whole : (d : List ℕ) → length d % 2 ≡ 0 → IsAligned e d
  even : (d : List ℕ) → IsAligned e d → length d % 2 ≡ 0
  ascii : (c a b : ℕ) → c < 0x80 → unit a b ≡ c → a ∷ b ∷ [] ≡ ascii_bytes e c

-- An LF at the front.
lf-meets : (e : Encoding) (d : List ℕ) (lines : Lines) → IsCut e d lines
    → IsCut e (ascii_bytes e line_feed ++ d) (record lines { ended = end_before lf lines.ended })
lf-meets e d lines h = grind (arith)

-- A CR before a line that isn't an empty one that an LF ends.
cr-apart : (e : Encoding) (ls : List Ended) (last d : List ℕ) → BeginsWithNoLoneLf ls → IsCut e d (record { ended = ls; last = last })
    → IsCut e (ascii_bytes e carriage_return ++ d) (record { ended = end_before cr ls; last = last })
cr-apart e ls last d k h = grind (arith)

-- A CR before a line.
cr-meets-line : (e : Encoding) (text : List ℕ) (by : LineEnding) (ls : List Ended) (last d : List ℕ)
    → IsCut e d (record { ended = record { text = text; by = by } ∷ ls; last = last })
    → IsCut e (ascii_bytes e carriage_return ++ d) (record { ended = cr_before (record { text = text; by = by } ∷ ls); last = last })
cr-meets-line e text by ls last d h = grind (arith)

-- A CR before any lines, or before none.
cr-meets : (e : Encoding) (ended : List Ended) (last d : List ℕ) → IsCut e d (record { ended = ended; last = last })
    → IsCut e (ascii_bytes e carriage_return ++ d) (record { ended = cr_before ended; last = last })
cr-meets e [] last d h = cr-apart e [] last d tt h
cr-meets e (l ∷ ls) last d h = cr-meets-line e l.text l.by ls last d h

-- Any other unit at the front.
two-meets : (e : Encoding) (unit : ℕ → ℕ → ℕ) (a b : ℕ) (ended : List Ended) (last d : List ℕ) → IsOfTwo e unit → is_line_ending (unit a b) ≡ false
    → IsCut e d (record { ended = ended; last = last }) → IsCut e (a ∷ b ∷ d) (two_before a b (record { ended = ended; last = last }))
two-meets e unit a b ended last d h k m = grind (arith)

-- A line ending unit is a CR or an LF.
unit-meets : (e : Encoding) (unit : ℕ → ℕ → ℕ) (a b : ℕ) (lines : Lines) (d : List ℕ) → IsOfTwo e unit
    → IsCut e d lines → IsCut e (a ∷ b ∷ d) (unit_before (unit a b) a b lines)
unit-meets e unit a b lines d t h = elim (cases_Bool (is_line_ending (unit a b))) [
  | inl k ↦ elim (or_cases (unit a b == line_feed) (unit a b == carriage_return) k) [
    | inl m ↦
        let q : unit a b ≡ line_feed = eqb-true (unit a b) line_feed m in
        let s = t.ascii line_feed a b (lit< tt) q in
        rw q (subst (λ v. IsCut e (v ++ d) (record lines { ended = end_before lf lines.ended })) (sym s) (lf-meets e d lines h))
    | inr m ↦
        let q : unit a b ≡ carriage_return = eqb-true (unit a b) carriage_return m in
        let s = t.ascii carriage_return a b (lit< tt) q in
        rw q (subst (λ v. IsCut e (v ++ d) (record lines { ended = cr_before lines.ended })) (sym s) (cr-meets e lines.ended lines.last d h))
  ]
  | inr k ↦ rw (unit-plain (unit a b) a b lines k) (two-meets e unit a b lines.ended lines.last d t k h)
]

-- If units are two bytes each, the computed lines are lines of the bytes.
of-two-meets : (e : Encoding) (unit : ℕ → ℕ → ℕ) (d : List ℕ) → IsOfTwo e unit → IsCut e d (cut_of_two unit d)
of-two-meets e unit [] t = record { bytes = refl; are_cut = t.none [] tt }
of-two-meets e unit (a ∷ []) t = record { bytes = refl; are_cut = t.none (a ∷ []) tt }
of-two-meets e unit (a ∷ b ∷ d) t = unit-meets e unit a b (cut_of_two unit d) d t (of-two-meets e unit d t)

-- In UTF-16LE, units are two bytes with the low byte first, and a CR or an LF is one unit.
le-two : IsOfTwo utf_16le low_first
le-two = record { none = λ d h. h; units = λ d h. h; whole = λ d h. h; even = λ d h. h; ascii = λ c a b l h. grind (arith) }

-- In UTF-16BE, units are two bytes with the high byte first, and a CR or an LF is one unit.
be-two : IsOfTwo utf_16be high_first
be-two = record { none = λ d h. h; units = λ d h. h; whole = λ d h. h; even = λ d h. h; ascii = λ c a b l h. grind (arith) }

-- The computed lines are lines of the bytes.
pub cut_of-meets : (e : Encoding) (d : List ℕ) → IsCut e d (cut_of e d)
cut_of-meets windows_1252 d = one-meets windows_1252 ending-windows_1252 (λ v h. h) (λ v. tt) d (lines_of d) (lines_of-meets d)
cut_of-meets utf_8 d = one-meets utf_8 ending-utf_8 (λ v h. h) (λ v. tt) d (lines_of d) (lines_of-meets d)
cut_of-meets utf_16le d = of-two-meets utf_16le low_first d le-two
cut_of-meets utf_16be d = of-two-meets utf_16be high_first d be-two
