-- The lines of bytes before they are decoded: line endings are searched for among the units, and each line is decoded
-- by itself. A unit is one byte, or two bytes in UTF-16. The text of an ended line is its bytes here, until it is
-- decoded. Source: java.util.Properties of Java SE 7, load (what ends a line); The Unicode Standard, D77 (code units).
use Rattle.std.specs.Prelude.{◌≡◌, ℕ, List, [], ◌∷◌, ◌++◌}
use Rattle.properties_format.specs.Text.{line_feed, carriage_return, LineEnding, lf, cr, crlf, Piece, piece_characters}
use Rattle.properties_format.specs.Lines.{Ended, Lines, HoldsNoLineEnding, BeginsWithNoLoneLf}
use Rattle.properties_format.specs.Utf16.{low_first, high_first}
use Rattle.properties_format.specs.Encoding.{Encoding, utf_16le, utf_16be, IsPieces, IsAligned, ascii_bytes, byte_order_mark}

-- ---- Units.

-- the units of two bytes each; an odd byte at the end belongs to none
abbrev pub units_of_two : (ℕ → ℕ → ℕ) → List ℕ → List ℕ
units_of_two unit (a ∷ b ∷ d) = unit a b ∷ units_of_two unit d
units_of_two unit d = []

-- the units of some bytes, as numbers
abbrev pub units : Encoding → List ℕ → List ℕ
units utf_16le d = units_of_two low_first d
units utf_16be d = units_of_two high_first d
units e d = d

-- No unit of the bytes is a CR or an LF.
abbrev pub HoldsNoLineEndingUnit : Encoding → List ℕ → Type 0
HoldsNoLineEndingUnit e d = HoldsNoLineEnding (units e d)

-- ---- The cut: lines of bytes.

-- the bytes of a line ending
abbrev pub line_ending_bytes : Encoding → LineEnding → List ℕ
line_ending_bytes e lf = ascii_bytes e line_feed
line_ending_bytes e cr = ascii_bytes e carriage_return
line_ending_bytes e crlf = ascii_bytes e carriage_return ++ ascii_bytes e line_feed

-- lines of bytes with their ends, put back together
abbrev pub bytes_together : Encoding → List Ended → List ℕ → List ℕ
bytes_together e [] last = last
bytes_together e (l ∷ ls) last = l.text ++ (line_ending_bytes e l.by ++ bytes_together e ls last)

-- No unit of a line is a CR or an LF. A line with an end has whole units only, so that its end is one or two units.
-- After a line that a CR ends, the next line isn't an empty one that an LF ends, because that LF would belong to the
-- same end.
abbrev pub AreCut : Encoding → List Ended → List ℕ → Type 0
AreCut e [] last = HoldsNoLineEndingUnit e last
AreCut e (l ∷ ls) last = HoldsNoLineEndingUnit e l.text × IsAligned e l.text × (l.by ≡ cr → BeginsWithNoLoneLf ls) × AreCut e ls last

-- The bytes d, in the encoding e, have these lines of bytes.
pub record IsCut (e : Encoding) (d : List ℕ) (lines : Lines) : Type 0 where
  pub bytes : d ≡ bytes_together e lines.ended lines.last
  pub are_cut : AreCut e lines.ended lines.last

-- ---- Line by line: lines of bytes, each decoded by itself.

-- The bytes of a line, by themselves, are decoded to this text.
abbrev pub IsDecodedLine : Encoding → List ℕ → List ℕ → Type 0
IsDecodedLine e d x = (ps : List Piece) × IsPieces e d ps × (x ≡ piece_characters ps)

-- Lines of bytes are decoded one by one to these lines, and keep their ends.
abbrev pub AreDecodedLines : Encoding → List Ended → List Ended → Type 0
AreDecodedLines e [] [] = Unit {0}
AreDecodedLines e (l ∷ ls) (t ∷ ts) = IsDecodedLine e l.text t.text × (l.by ≡ t.by) × AreDecodedLines e ls ts
AreDecodedLines e ls ts = ⊥

-- The bytes b are split into lines after any byte order mark, and these are the lines, each decoded by itself.
pub record IsByline (e : Encoding) (b : List ℕ) (lines : Lines) : Type 0 where
  pub cut : Lines
  pub is_cut : IsCut (byte_order_mark e b).encoding (byte_order_mark e b).body cut
  pub ended : AreDecodedLines (byte_order_mark e b).encoding cut.ended lines.ended
  pub last : IsDecodedLine (byte_order_mark e b).encoding cut.last lines.last
