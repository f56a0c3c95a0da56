-- The four encodings: which of them a text is in, how its bytes are divided into pieces, and which characters can be
-- encoded.
-- Source: WHATWG Encoding Standard, sections 4.3 (output encodings), 6 (byte order marks) and 8 to 14 (the decoders).
use Rattle.std.specs.Prelude.{◌≡◌, ℕ, ◌%◌, ◌==◌, ◌&&◌, ◌||◌, not, nat_lt, Bool, true, false, if◌then◌else◌, List, [], ◌∷◌, ◌++◌, length, drop, Option, Some, None, encode_utf8}
use Rattle.properties_format.specs.Windows1252.{windows_1252_byte, is_in_table, IsWindows1252Piece}
use Rattle.properties_format.specs.Utf8.{IsUtf8Piece}
use Rattle.properties_format.specs.Utf16.{low_first, high_first, IsUtf16Piece}
pub use Rattle.properties_format.specs.Text.{Piece, piece_characters}

-- the four encodings
pub data Encoding : Type 0 where
  windows_1252 : Encoding
  utf_8 : Encoding
  utf_16le : Encoding
  utf_16be : Encoding

-- ---- What a writer writes.

-- the encoding in which a writer writes: UTF-8 for the UTF-16 encodings, otherwise the encoding itself
abbrev pub output_encoding : Encoding → Encoding
output_encoding windows_1252 = windows_1252
output_encoding e = utf_8

-- the byte as a list, if there is one
abbrev pub one_byte : Option ℕ → Option (List ℕ)
one_byte None = None
one_byte (Some b) = Some (b ∷ [])

-- the bytes of a character in the output encoding, if it can be encoded
abbrev pub encoded : Encoding → ℕ → Option (List ℕ)
encoded windows_1252 c = one_byte (windows_1252_byte c)
encoded e c = Some (encode_utf8 c)

-- ---- Byte order marks.

-- the byte order marks
abbrev pub utf_8_bom : List ℕ
utf_8_bom = 0xef ∷ 0xbb ∷ 0xbf ∷ []

abbrev pub utf_16be_bom : List ℕ
utf_16be_bom = 0xfe ∷ 0xff ∷ []

abbrev pub utf_16le_bom : List ℕ
utf_16le_bom = 0xff ∷ 0xfe ∷ []

-- whether the list begins with these numbers
abbrev pub begins_with : List ℕ → List ℕ → Bool
begins_with [] d = true
begins_with (m ∷ ms) [] = false
begins_with (m ∷ ms) (b ∷ d) = m == b && begins_with ms d

-- whether the bytes begin like a byte order mark
abbrev pub begins_like_bom : List ℕ → Bool
begins_like_bom b = begins_with utf_8_bom b || (begins_with utf_16be_bom b || begins_with utf_16le_bom b)

-- an encoding in force, and the bytes in that encoding
pub record InForce : Type 0 where
  pub encoding : Encoding
  pub body : List ℕ

-- a byte order mark at the front determines the encoding and is dropped; without one, the requested encoding applies to
-- all bytes
abbrev pub byte_order_mark : Encoding → List ℕ → InForce
byte_order_mark e b =
    if begins_with utf_8_bom b then record { encoding = utf_8; body = drop 3 b }
    else (if begins_with utf_16be_bom b then record { encoding = utf_16be; body = drop 2 b }
    else (if begins_with utf_16le_bom b then record { encoding = utf_16le; body = drop 2 b }
    else record { encoding = e; body = b }))

-- ---- Pieces.

-- The piece may come before the rest.
abbrev pub IsPiece : Encoding → Piece → List ℕ → Type 0
IsPiece windows_1252 p rest = IsWindows1252Piece p
IsPiece utf_8 p rest = IsUtf8Piece p rest
IsPiece utf_16le p rest = IsUtf16Piece low_first p rest
IsPiece utf_16be p rest = IsUtf16Piece high_first p rest

-- The bytes are these pieces in order, and each piece may come before what follows it.
abbrev pub IsPieces : Encoding → List ℕ → List Piece → Type 0
IsPieces e d [] = d ≡ []
IsPieces e d (p ∷ ps) = (rest : List ℕ) × (d ≡ p.bytes ++ rest) × IsPiece e p rest × IsPieces e rest ps

-- The bytes are decoded to this text: the characters of the pieces after any byte order mark.
abbrev pub IsDecoded : Encoding → List ℕ → List ℕ → Type 0
IsDecoded e b x = (ps : List Piece) × IsPieces (byte_order_mark e b).encoding (byte_order_mark e b).body ps × (x ≡ piece_characters ps)

-- the bytes of an ASCII character
abbrev pub ascii_bytes : Encoding → ℕ → List ℕ
ascii_bytes utf_16le c = c ∷ 0 ∷ []
ascii_bytes utf_16be c = 0 ∷ c ∷ []
ascii_bytes e c = c ∷ []

-- The bytes end at a unit's boundary: in UTF-16, their number is even.
abbrev pub IsAligned : Encoding → List ℕ → Type 0
IsAligned utf_16le d = length d % 2 ≡ 0
IsAligned utf_16be d = length d % 2 ≡ 0
IsAligned e d = Unit {0}

-- ---- What may stand unescaped in what is printed.
-- Source: java.util.Properties of Java SE 7, store (a character that the output doesn't have is escaped).

-- a set of characters: all; those whose bytes are read alike in ISO 8859-1; or those of ASCII, which are the same bytes
-- in every encoding for output
pub data Characters : Type 0 where
  all_characters : Characters
  latin_1_characters : Characters
  ascii_characters : Characters

-- Whether the set has a character, given the encoding. Of windows-1252, the bytes 80 to 9F aren't read alike; of UTF-8,
-- no byte of a non-ASCII character is.
abbrev pub holds : Characters → Encoding → ℕ → Bool
holds all_characters e c = true
holds latin_1_characters windows_1252 c = nat_lt c 0x100 && not (is_in_table c)
holds latin_1_characters e c = nat_lt c 0x80
holds ascii_characters e c = nat_lt c 0x80

-- the characters of an encoding that are in a set
pub record Repertoire : Type 0 where
  pub encoding : Encoding
  pub characters : Characters

-- those of ASCII only, if the first flag says so; otherwise those that are read alike, if the second does; otherwise all
abbrev pub characters_for : Bool → Bool → Characters
characters_for only latin_1 = if only then ascii_characters else (if latin_1 then latin_1_characters else all_characters)

-- a repertoire of an encoding, of ASCII only if the flag says so
abbrev pub repertoire : Encoding → Bool → Repertoire
repertoire e only = record { encoding = e; characters = characters_for only false }

-- all characters of an encoding
abbrev pub all_of : Encoding → Repertoire
all_of e = repertoire e false

-- the ASCII characters, in this encoding
abbrev pub ascii_in : Encoding → Repertoire
ascii_in e = repertoire e true

-- the characters of an encoding that are read alike in ISO 8859-1
abbrev pub latin_1_in : Encoding → Repertoire
latin_1_in e = record { encoding = e; characters = latin_1_characters }

-- a repertoire in another encoding
abbrev pub in_encoding : Repertoire → Encoding → Repertoire
in_encoding r e = record r { encoding = e }

-- a repertoire in the encoding that is in force in a source
abbrev pub repertoire_in_force : Repertoire → List ℕ → Repertoire
repertoire_in_force r source = in_encoding r (byte_order_mark r.encoding source).encoding
