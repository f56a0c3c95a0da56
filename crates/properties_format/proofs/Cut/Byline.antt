-- Splitting commutes with decoding: the lines that are found in undecoded bytes and decoded one by one are the lines of
-- the decoded text.
use Rattle.std.proofs.Common.{◌≡◌, ℕ, ◌<◌, ◌⊎◌, true, List, [], ◌∷◌, ◌++◌, refl, ap, ap₂, sym, ◌∙◌, subst, inl, inr, append_assoc, arith}
use Rattle.std.proofs.lemmas.Bool.{cases_Bool}
use Rattle.properties_format.specs.Text.{is_line_ending, LineEnding, line_ending_text, piece_characters}
use Rattle.properties_format.specs.Lines.{Ended, Lines, put_together, HoldsNoLineEnding, BeginsWithNoLoneLf, AreLines, IsLines}
use Rattle.properties_format.specs.Encoding.{Encoding, IsAligned, IsDecoded, byte_order_mark}
use Rattle.properties_format.specs.Cut.{HoldsNoLineEndingUnit, line_ending_bytes, bytes_together, AreCut, IsCut, IsDecodedLine, AreDecodedLines, IsByline}
use Rattle.properties_format.specs.Computed.Encoding.{pieces_of, decoded_of}
use Rattle.properties_format.specs.Computed.Lines.{lines_of}
use Rattle.properties_format.specs.Computed.Cut.{cut_of, decoded_line}
use Rattle.properties_format.proofs.Encodings.Pieces.{pieces_of-meets, pieces_of-only, decoded_of-only}
use Rattle.properties_format.proofs.Encodings.Characters.{pieces_of-ascii}
use Rattle.properties_format.proofs.Encodings.Cuts.{characters-cut_ascii, cut-at_ascii}
use Rattle.properties_format.proofs.Encodings.Waiting.{pieces_of-step}
use Rattle.properties_format.proofs.Lines.Meets.{lines_of-meets}
use Rattle.properties_format.proofs.Lines.Only.{lines_of-plain, lines_of-only}
use Rattle.properties_format.proofs.Cut.Units.{no_end_unit-at}
use Rattle.properties_format.proofs.Cut.Only.{cut_of-only}
use Rattle.properties_format.proofs.Cut.Meets.{cut_of-meets}

-- ---- The lines, each decoded by itself.

-- the lines, each decoded by itself
abbrev pub decoded_ended : Encoding → List Ended → List Ended
decoded_ended e [] = []
decoded_ended e (l ∷ ls) = record { text = decoded_line e l.text; by = l.by } ∷ decoded_ended e ls

abbrev pub decoded_lines : Encoding → Lines → Lines
decoded_lines e lines = record { ended = decoded_ended e lines.ended; last = decoded_line e lines.last }

-- the lines of the bytes after any byte order mark, each decoded by itself
abbrev pub byline_of : Encoding → List ℕ → Lines
byline_of e b = decoded_lines (byte_order_mark e b).encoding (cut_of (byte_order_mark e b).encoding (byte_order_mark e b).body)

-- ---- The decoded text.

-- A line and its end at the front, decoded.
pub decoded-line : (e : Encoding) (text : List ℕ) (by : LineEnding) (y : List ℕ) → IsAligned e text
    → decoded_line e (text ++ (line_ending_bytes e by ++ y)) ≡ decoded_line e text ++ (line_ending_text by ++ decoded_line e y)
decoded-line e text by y h = grind (arith, characters-cut_ascii, append_assoc, pieces_of-ascii)

-- Lines of bytes put together decode to their texts put together.
decoded-together : (e : Encoding) (ls : List Ended) (last : List ℕ) → AreCut e ls last
    → decoded_line e (bytes_together e ls last) ≡ put_together (decoded_ended e ls) (decoded_line e last)
decoded-together e [] last h = refl
decoded-together e (l ∷ ls) last h = grind (arith, decoded-line, decoded-together e ls last h.3)

-- ---- Its lines.

-- A text contains no CR and no LF; or it is the text before the first one, that one, and the text after it.
first-end : (x : List ℕ) → HoldsNoLineEnding x ⊎ ((t : List ℕ) × (c : ℕ) × (s : List ℕ) × (is_line_ending c ≡ true) × (x ≡ t ++ c ∷ s))
first-end [] = inl tt
first-end (c ∷ x) = elim (cases_Bool (is_line_ending c)) [
  | inl h ↦ inr ([], c, x, h, refl)
  | inr h ↦ elim (first-end x) [ inl p ↦ inl (h, p) | inr q ↦ inr (c ∷ q.0, q.1, q.2, q.3, ap (λ v. c ∷ v) q.4) ]
]

-- A line ending is an ASCII character.
pub end-ascii : (c : ℕ) → is_line_ending c ≡ true → c < 0x80
end-ascii c h = grind (arith)

-- Bytes without a line ending unit decode to a text without a line ending.
pub no_end-decoded : (e : Encoding) (d : List ℕ) → HoldsNoLineEndingUnit e d → HoldsNoLineEnding (decoded_line e d)
no_end-decoded e d h = grind (arith, first-end, cut-at_ascii, no_end_unit-at)

-- Only an empty list of bytes decodes to an empty text.
pub nothing-decoded : (e : Encoding) (d : List ℕ) → decoded_line e d ≡ [] → d ≡ []
nothing-decoded e [] h = refl
nothing-decoded e (b ∷ d) h = let k = ap piece_characters (pieces_of-step e b d) in absurd (cc)

-- If the first line of bytes isn't an empty one that an LF ends, neither is the first decoded line.
no_lone-decoded : (e : Encoding) (ls : List Ended) → BeginsWithNoLoneLf ls → BeginsWithNoLoneLf (decoded_ended e ls)
no_lone-decoded e ls h = grind (arith, nothing-decoded)

-- Lines of bytes, decoded one by one, are lines of a text.
lines-decoded : (e : Encoding) (ls : List Ended) (last : List ℕ) → AreCut e ls last → AreLines (decoded_ended e ls) (decoded_line e last)
lines-decoded e [] last h = no_end-decoded e last h
lines-decoded e (l ∷ ls) last h = (no_end-decoded e l.text h.0, (λ k. no_lone-decoded e ls (h.2 k)), lines-decoded e ls last h.3)

-- Lines of bytes, each decoded by itself, are lines of the text of these bytes.
pub decoded_lines-meets : (e : Encoding) (d : List ℕ) (lines : Lines) → IsCut e d lines → IsLines (decoded_line e d) (decoded_lines e lines)
decoded_lines-meets e d lines h = grind (arith, decoded-together, lines-decoded)

-- The lines of bytes, each decoded by itself, are the lines of their text.
pub decoded_lines-cut : (e : Encoding) (d : List ℕ) → decoded_lines e (cut_of e d) ≡ lines_of (decoded_line e d)
decoded_lines-cut e d = lines_of-only (decoded_line e d) (decoded_lines e (cut_of e d)) (decoded_lines-meets e d (cut_of e d) (cut_of-meets e d))

-- If no decoded line is ended, the lines of bytes, put together, contain no line ending unit.
no_ended : (e : Encoding) (ls : List Ended) (last : List ℕ) → decoded_ended e ls ≡ [] → AreCut e ls last → HoldsNoLineEndingUnit e (bytes_together e ls last)
no_ended e [] last h k = k
no_ended e (l ∷ ls) last h k = absurd (cc)

-- Bytes that decode to a text without a line ending contain no line ending unit.
pub no_end-undecoded : (e : Encoding) (d : List ℕ) → HoldsNoLineEnding (decoded_line e d) → HoldsNoLineEndingUnit e d
no_end-undecoded e d h =
    let c = cut_of-meets e d in
    let k = ap (λ v. v.ended) (decoded_lines-cut e d ∙ lines_of-plain (decoded_line e d) h) in
    subst (HoldsNoLineEndingUnit e) (sym c.bytes) (no_ended e (cut_of e d).ended (cut_of e d).last k c.are_cut)

-- ---- Splitting commutes with decoding.

-- The lines that are cut first and then decoded one by one are the lines of the decoded text.
pub byline-lines : (e : Encoding) (b : List ℕ) → byline_of e b ≡ lines_of (decoded_of e b)
byline-lines e b = decoded_lines-cut (byte_order_mark e b).encoding (byte_order_mark e b).body

-- ---- The computed lines, and no others, are the lines of the bytes.

-- The bytes of a line decode to the computed text.
pub decoded_line-meets : (e : Encoding) (d : List ℕ) → IsDecodedLine e d (decoded_line e d)
decoded_line-meets e d = (pieces_of e d, pieces_of-meets e d, refl)

-- They decode to no other text.
pub decoded_line-only : (e : Encoding) (d x : List ℕ) → IsDecodedLine e d x → x ≡ decoded_line e d
decoded_line-only e d x (ps, h, s) = s ∙ ap piece_characters (pieces_of-only e d ps h)

-- Ended lines of bytes decode, one by one, to the computed lines.
decoded_ended-meets : (e : Encoding) (ls : List Ended) → AreDecodedLines e ls (decoded_ended e ls)
decoded_ended-meets e [] = tt
decoded_ended-meets e (l ∷ ls) = (decoded_line-meets e l.text, refl, decoded_ended-meets e ls)

-- They decode to no other lines.
decoded_ended-only : (e : Encoding) (ls ts : List Ended) → AreDecodedLines e ls ts → ts ≡ decoded_ended e ls
decoded_ended-only e [] [] h = refl
decoded_ended-only e (l ∷ ls) (t ∷ ts) h = rw (← decoded_line-only e l.text t.text h.0, h.1, ← decoded_ended-only e ls ts h.2)
decoded_ended-only e ls ts h = absurd h

-- The computed lines are the lines of the input's bytes, each decoded by itself.
pub byline_of-meets : (e : Encoding) (b : List ℕ) → IsByline e b (byline_of e b)
byline_of-meets e b =
    let m = byte_order_mark e b in
    let c = cut_of m.encoding m.body in
    record {
      cut = c;
      is_cut = cut_of-meets m.encoding m.body;
      ended = decoded_ended-meets m.encoding c.ended;
      last = decoded_line-meets m.encoding c.last;
    }

-- The input has no other such lines.
pub byline_of-only : (e : Encoding) (b : List ℕ) (lines : Lines) → IsByline e b lines → lines ≡ byline_of e b
byline_of-only e b lines h =
    let m = byte_order_mark e b in
    let p = decoded_ended-only m.encoding h.cut.ended lines.ended h.ended in
    let q = decoded_line-only m.encoding h.cut.last lines.last h.last in
    ap₂ (λ v w. let s : Lines = record { ended = v; last = w } in s) p q
    ∙ ap (decoded_lines m.encoding) (cut_of-only m.encoding m.body h.cut h.is_cut)

-- ---- Any lines: those of the bytes, decoded one by one, and those of the text.

-- Lines of the bytes, decoded one by one, are lines of the text.
pub byline-is_lines : (e : Encoding) (b x : List ℕ) (lines : Lines) → IsByline e b lines → IsDecoded e b x → IsLines x lines
byline-is_lines e b x lines h k = rw (byline_of-only e b lines h ∙ byline-lines e b, decoded_of-only e b x k) (lines_of-meets (decoded_of e b))

-- Lines of the text are lines of the bytes, decoded one by one.
pub lines-is_byline : (e : Encoding) (b x : List ℕ) (lines : Lines) → IsLines x lines → IsDecoded e b x → IsByline e b lines
lines-is_byline e b x lines h k = rw (lines_of-only x lines h ∙ ap lines_of (decoded_of-only e b x k) ∙ sym (byline-lines e b)) (byline_of-meets e b)
