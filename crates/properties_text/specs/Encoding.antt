-- The format's encodings that this crate's own encodings correspond to, and the results of the decoder's parts: the
-- byte order mark, the first piece, and text that needs no decoding.
use Rattle.properties_format.specs.Encoding as format
use Rattle.properties_text.specs.declared.encoding.Encoding.{Encoding}
use Rattle.properties_text.specs.declared.encoding.Encoding.TheVariants.{WINDOWS_1252, UTF_8, UTF_16LE, UTF_16BE}
use Rattle.properties_text.specs.declared.encoding.line_encoding.LineEncoding.{LineEncoding}
use Rattle.properties_text.specs.declared.encoding.line_encoding.LineEncoding.TheVariants.{Windows1252, Utf8}
use Rattle.std.specs.Prelude.{◌≡◌, ℕ, ◌≤◌, ◌<◌, ◌++◌, Bool, true, false, List, [], ◌∷◌, length, take, drop}
use Rattle.std.specs.Char.{IsScalar, encode_utf8}
use Rattle.std.specs.Str.{IsAscii, IsUtf8, chars}
use Rattle.properties_format.specs.Text.{Piece, piece_characters}
use Rattle.properties_format.specs.Utf8.{Range, from_to, IsWellFormedText}
use Rattle.properties_format.specs.Utf16.{low_first, high_first}
use Rattle.properties_format.specs.Windows1252.{windows_1252_character}
use Rattle.properties_format.specs.Computed.Encoding.{first_piece, pieces_of, awaits_bom, awaits_more}
use Rattle.properties_text.specs.declared.encoding.byte_order_mark.ByteOrderMark.{ByteOrderMark}
use Rattle.properties_text.specs.declared.encoding.byte_order_mark.ByteOrderMark.TheVariants.{Present, Absent, Undecided}
use Rattle.properties_text.specs.declared.encoding.first_piece.FirstPiece.{FirstPiece}
use Rattle.properties_text.specs.declared.encoding.decode.Decoded.{Decoded}
use Rattle.properties_text.specs.declared.encoding.utf_8.ByteRange.{ByteRange}
use Rattle.properties_text.specs.declared.encoding.windows_1252.ByteText.{ByteText}
use Rattle.properties_text.specs.declared.encoding.utf_16.ByteOrder.{ByteOrder}
use Rattle.properties_text.specs.declared.encoding.utf_16.ByteOrder.TheVariants.{LowFirst, HighFirst}

abbrev pub encoding_of : Encoding → format.Encoding
encoding_of WINDOWS_1252 = format.windows_1252
encoding_of UTF_8 = format.utf_8
encoding_of UTF_16LE = format.utf_16le
encoding_of UTF_16BE = format.utf_16be

abbrev pub line_of : LineEncoding → format.Encoding
line_of Windows1252 = format.windows_1252
line_of Utf8 = format.utf_8

-- ---- The byte order mark.

-- Whichever encoding is requested, the bytes are in this encoding, and the body starts at this position.
abbrev pub IsInForce : List ℕ → format.Encoding → ℕ → Type 0
IsInForce b e n = (asked : format.Encoding) → format.byte_order_mark asked b ≡ record { encoding = e; body = drop n b }

abbrev pub IsUnmarked : List ℕ → Type 0
IsUnmarked b = (asked : format.Encoding) → format.byte_order_mark asked b ≡ record { encoding = asked; body = b }

-- If this encoding is requested, the body of the bytes starts at this position, and is in this encoding.
pub record IsBody (requested : format.Encoding) (b : List ℕ) (e : format.Encoding) (start : ℕ) : Type 0 where
  pub in_force : format.byte_order_mark requested b ≡ record { encoding = e; body = drop start b }
  pub within : start ≤ length b

-- The result says whether the bytes begin with a byte order mark, or that more bytes are needed to decide.
abbrev pub FindsByteOrderMark : List ℕ → ByteOrderMark → Type 0
FindsByteOrderMark b (Present e n) = IsInForce b (encoding_of e) n × (awaits_bom b ≡ false) × (n ≤ length b)
FindsByteOrderMark b Absent = IsUnmarked b × (awaits_bom b ≡ false)
FindsByteOrderMark b Undecided = IsUnmarked b × (awaits_bom b ≡ true)

-- ---- The first piece.

-- the unit that two bytes make
abbrev pub unit_of : ByteOrder → ℕ → ℕ → ℕ
unit_of LowFirst = low_first
unit_of HighFirst = high_first

-- the bytes at even indices, and those at odd indices, of whole pairs of bytes
abbrev pub evens : List ℕ → List ℕ
evens [] = []
evens (a ∷ []) = []
evens (a ∷ b ∷ bytes) = a ∷ evens bytes

abbrev pub odds : List ℕ → List ℕ
odds [] = []
odds (a ∷ []) = []
odds (a ∷ b ∷ bytes) = b ∷ odds bytes

-- the low bytes of the units of some bytes, and the high bytes
abbrev pub lows_of : ByteOrder → List ℕ → List ℕ
lows_of LowFirst = evens
lows_of HighFirst = odds

abbrev pub highs_of : ByteOrder → List ℕ → List ℕ
highs_of LowFirst = odds
highs_of HighFirst = evens

abbrev pub utf_16_of : ByteOrder → Encoding
utf_16_of LowFirst = UTF_16LE
utf_16_of HighFirst = UTF_16BE

abbrev pub range_of : ByteRange → Range
range_of r = from_to r.0 r.1

-- The result shows this piece, and whether further bytes may change it.
pub record ShowsPiece (p : Piece) (waits : Bool) (shown : FirstPiece) : Type 0 where
  pub character_is : shown.character ≡ p.character
  pub length_is : shown.length ≡ length p.bytes
  pub may_change_is : shown.may_change ≡ waits

-- The result is the first piece of a first byte and the bytes after it.
abbrev pub IsFirstPiece : format.Encoding → ℕ → List ℕ → FirstPiece → Type 0
IsFirstPiece e b d shown = ShowsPiece (first_piece e b d) (awaits_more e b d) shown

-- ---- Text.

-- the characters of some bytes, decoded by themselves
abbrev pub text_of : Encoding → List ℕ → List ℕ
text_of encoding d = piece_characters (pieces_of (encoding_of encoding) d)

-- So many bytes at the front are well-formed UTF-8, and no more.
pub record IsLongestText (bytes : List ℕ) (n : ℕ) : Type 0 where
  pub within : n ≤ length bytes
  pub text : IsUtf8 (take n bytes)
  pub longest : (m : ℕ) → m ≤ length bytes → IsUtf8 (take m bytes) → m ≤ n

-- The bytes at the front that are text already are passed: in UTF-8 as many as are well-formed, otherwise none.
abbrev pub PassesText : Encoding → List ℕ → List ℕ → Type 0
PassesText UTF_8 bytes rest = (front : List ℕ) × (bytes ≡ front ++ rest) × IsLongestText bytes (length front)
PassesText encoding bytes rest = rest ≡ bytes

-- The result is the character of a windows-1252 byte, in UTF-8.
pub record IsTextOfByte (byte : ℕ) (text : ByteText) : Type 0 where
  pub begins : take text.length text.bytes ≡ encode_utf8 (windows_1252_character byte)
  pub some : 0 < text.length
  pub few : text.length ≤ 3
  pub scalar : IsScalar (windows_1252_character byte)

-- Bytes at the front were decoded, and their text was written to a run, after the text that ended at `start`.
pub record DecodesFront (encoding : Encoding) (bytes old : List ℕ) (start : ℕ) (new : List ℕ) (decoded : Decoded) : Type 0 where
  pub same_room : length new ≡ length old
  pub within : decoded.end ≤ length new
  pub onwards : start ≤ decoded.end
  pub left : length decoded.rest.now ≤ length bytes
  pub is_text : IsUtf8 (take decoded.end new)
  pub text : chars (take decoded.end new) ++ text_of encoding decoded.rest.now ≡ chars (take start old) ++ text_of encoding bytes

-- The bytes are valid UTF-8 without being decoded: they are ASCII, or all of them are well-formed. In UTF-16, none are.
abbrev pub IsText : format.Encoding → List ℕ → Type 0
IsText format.windows_1252 d = IsAscii d
IsText format.utf_8 d = IsWellFormedText d
IsText e d = ⊥

-- If memory ran out, the text, in UTF-8, is a beginning of the text that was to be made, and no shorter than before.
pub record KeepsText (old more new : List ℕ) : Type 0 where
  pub others : List ℕ
  pub begins : chars new ++ others ≡ chars old ++ more
  pub longer : length old ≤ length new
