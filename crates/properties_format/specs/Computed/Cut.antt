-- The lines of undecoded bytes, computed from the end of the bytes.
use Rattle.std.specs.Prelude.{ℕ, if◌then◌else◌, List, [], ◌∷◌, map}
use Rattle.properties_format.specs.Text.{is_line_ending, piece_characters}
use Rattle.properties_format.specs.Lines.{Lines}
use Rattle.properties_format.specs.Utf16.{low_first, high_first}
use Rattle.properties_format.specs.Encoding.{Encoding, utf_16le, utf_16be}
use Rattle.properties_format.specs.Computed.Encoding.{pieces_of}
use Rattle.properties_format.specs.Computed.Lines.{character_before, before, lines_of}
use Rattle.properties_format.specs.Windows1252.{windows_1252_character}

-- the lines with two more bytes at the front of the first line
abbrev pub two_before : ℕ → ℕ → Lines → Lines
two_before a b lines = let later = character_before b lines.ended lines.last in character_before a later.ended later.last

-- the lines with one more unit of two bytes, with this value, at the front
abbrev pub unit_before : ℕ → ℕ → ℕ → Lines → Lines
unit_before u a b lines = if is_line_ending u then before u lines else two_before a b lines

-- the lines of bytes with units of two bytes; an odd byte at the end belongs to the last line
abbrev pub cut_of_two : (ℕ → ℕ → ℕ) → List ℕ → Lines
cut_of_two unit [] = record { ended = []; last = [] }
cut_of_two unit (a ∷ []) = record { ended = []; last = a ∷ [] }
cut_of_two unit (a ∷ b ∷ d) = unit_before (unit a b) a b (cut_of_two unit d)

-- the lines of undecoded bytes
abbrev pub cut_of : Encoding → List ℕ → Lines
cut_of utf_16le d = cut_of_two low_first d
cut_of utf_16be d = cut_of_two high_first d
cut_of e d = lines_of d

-- the text of a line's bytes
abbrev pub decoded_line : Encoding → List ℕ → List ℕ
decoded_line e d = piece_characters (pieces_of e d)

-- ---- Lines of windows-1252 that aren't decoded yet. Each byte is one character there, so that lines may be joined and
-- split before they are decoded.

-- the characters of bytes, each of which is one
abbrev pub windows_1252_characters : List ℕ → List ℕ
windows_1252_characters bytes = map windows_1252_character bytes
