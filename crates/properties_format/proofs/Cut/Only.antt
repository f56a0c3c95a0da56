-- Some bytes have exactly one list of lines, and a line before bytes is a line before their lines.
use Rattle.std.proofs.Common.{◌≡◌, List, [], ◌∷◌, ◌++◌, ℕ, refl, ap, sym, ◌∙◌, arith}
use Rattle.properties_format.specs.Text.{LineEnding, cr, line_ending_text}
use Rattle.properties_format.specs.Lines.{Ended, Lines, BeginsWithNoLoneLf}
use Rattle.properties_format.specs.Utf16.{low_first, high_first}
use Rattle.properties_format.specs.Encoding.{Encoding, windows_1252, utf_8, utf_16le, utf_16be, IsAligned}
use Rattle.properties_format.specs.Cut.{HoldsNoLineEndingUnit, line_ending_bytes, bytes_together, AreCut, IsCut}
use Rattle.properties_format.specs.Computed.Cut.{cut_of}
use Rattle.properties_format.proofs.Lines.Only.{lines_of-plain, lines_of-before}
use Rattle.properties_format.proofs.Cut.Two.{two-plain, two-line}

-- Bytes without a line ending unit are one line.
pub cut_of-plain : (e : Encoding) (d : List ℕ) → HoldsNoLineEndingUnit e d → cut_of e d ≡ record { ended = []; last = d }
cut_of-plain utf_16le d h = two-plain low_first d h
cut_of-plain utf_16be d h = two-plain high_first d h
cut_of-plain e d h = lines_of-plain d h

-- In windows-1252, the bytes of a line ending are its characters.
pub ending-windows_1252 : (by : LineEnding) → line_ending_bytes windows_1252 by ≡ line_ending_text by
ending-windows_1252 by = grind (arith)

-- In UTF-8, the bytes of a line ending are its characters.
pub ending-utf_8 : (by : LineEnding) → line_ending_bytes utf_8 by ≡ line_ending_text by
ending-utf_8 by = grind (arith)

-- A line and its end before bytes whose lines are known.
pub cut_of-before : (e : Encoding) (text : List ℕ) (by : LineEnding) (y : List ℕ) (ls : List Ended) (last : List ℕ)
    → HoldsNoLineEndingUnit e text → IsAligned e text → (by ≡ cr → BeginsWithNoLoneLf ls) → cut_of e y ≡ record { ended = ls; last = last }
    → cut_of e (text ++ (line_ending_bytes e by ++ y)) ≡ record { ended = record { text = text; by = by } ∷ ls; last = last }
cut_of-before windows_1252 text by y ls last p a k h = rw (ending-windows_1252 by) (lines_of-before text by y ls last p k h)
cut_of-before utf_8 text by y ls last p a k h = rw (ending-utf_8 by) (lines_of-before text by y ls last p k h)
cut_of-before utf_16le text by y ls last p a k h = two-line utf_16le low_first text by y ls last (record { lf_first = λ y. refl; cr_first = λ y. refl }) p a k h
cut_of-before utf_16be text by y ls last p a k h = two-line utf_16be high_first text by y ls last (record { lf_first = λ y. refl; cr_first = λ y. refl }) p a k h

-- Lines that are put together are the lines of the resulting bytes.
pub cut_of-together : (e : Encoding) (ls : List Ended) (last : List ℕ) → AreCut e ls last
    → cut_of e (bytes_together e ls last) ≡ record { ended = ls; last = last }
cut_of-together e [] last h = cut_of-plain e last h
cut_of-together e (l ∷ ls) last h = cut_of-before e l.text l.by (bytes_together e ls last) ls last h.0 h.1 h.2 (cut_of-together e ls last h.3)

-- Lines of the bytes are the computed ones.
pub cut_of-only : (e : Encoding) (d : List ℕ) (lines : Lines) → IsCut e d lines → lines ≡ cut_of e d
cut_of-only e d lines h = sym (ap (cut_of e) h.bytes ∙ cut_of-together e lines.ended lines.last h.are_cut)
