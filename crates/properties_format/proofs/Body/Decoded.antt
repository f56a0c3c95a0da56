-- In an encoding that can be edited, a CR or an LF is one byte, so the lines of undecoded bytes are those of a text
-- with these numbers.
use Rattle.std.proofs.Common.{◌≡◌, ℕ, true, List, [], ap, arith}
use Rattle.properties_format.specs.Text.{piece_characters}
use Rattle.properties_format.specs.Encoding.{Encoding}
use Rattle.properties_format.specs.Lines.{Lines, HoldsNoLineEnding, IsLines}
use Rattle.properties_format.specs.Computed.Lines.{lines_of}
use Rattle.properties_format.specs.Cut.{IsCut}
use Rattle.properties_format.specs.Computed.Cut.{cut_of, decoded_line}
use Rattle.properties_format.specs.Edited.{is_editable}
use Rattle.properties_format.proofs.Encodings.Pieces.{pieces_of-nil}
use Rattle.properties_format.proofs.Lines.Meets.{lines_of-meets}
use Rattle.properties_format.proofs.Cut.Only.{cut_of-only}
use Rattle.properties_format.proofs.Cut.Byline.{no_end-undecoded}

-- No bytes decode to an empty text.
pub decoded-nil : (e : Encoding) → decoded_line e [] ≡ []
decoded-nil e = ap piece_characters (pieces_of-nil e)

-- If a text contains no line ending, its bytes contain none.
pub plain-bytes : (e : Encoding) (d : List ℕ) → is_editable e ≡ true → HoldsNoLineEnding (decoded_line e d) → HoldsNoLineEnding d
plain-bytes e d ok h = grind (arith, no_end-undecoded e d h)

-- the lines of undecoded bytes
pub cut_of-lines : (e : Encoding) (d : List ℕ) → is_editable e ≡ true → cut_of e d ≡ lines_of d
cut_of-lines e d ok = grind (arith)

-- Lines of undecoded bytes are lines of a text with these numbers.
pub IsCut-lines : (e : Encoding) (d : List ℕ) (lines : Lines) → is_editable e ≡ true → IsCut e d lines → IsLines d lines
IsCut-lines e d lines ok h = rw (cut_of-only e d lines h, cut_of-lines e d ok) (lines_of-meets d)
