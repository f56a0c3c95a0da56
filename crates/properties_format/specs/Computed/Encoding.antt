-- How bytes are decoded: piece by piece, from the first byte on.
use Rattle.std.specs.Prelude.{ℕ, ◌&&◌, Bool, nat_le, if◌then◌else◌, List, [], ◌∷◌, length, ◌==◌, Option, Some, None, true, false, zero, suc, drop, ◌||◌}
use Rattle.properties_format.specs.Text.{Piece, piece, replacement, piece_characters}
use Rattle.properties_format.specs.Utf8.{Range, well_formed_rows, sequence_character}
use Rattle.properties_format.specs.Utf16.{is_high, is_low, pair_character, low_first, high_first}
use Rattle.properties_format.specs.Windows1252.{windows_1252_character}
use Rattle.properties_format.specs.Encoding.{Encoding, windows_1252, utf_8, utf_16le, utf_16be, byte_order_mark, utf_8_bom, utf_16be_bom, utf_16le_bom}

-- whether the byte is in the range
abbrev pub is_in : Range → ℕ → Bool
is_in r b = nat_le r.least b && nat_le b r.most

-- the ranges after the first in the row of this first byte, if it has a row
abbrev pub ranges_after : List (List Range) → ℕ → Option (List Range)
ranges_after [] b = None
ranges_after ([] ∷ more) b = ranges_after more b
ranges_after ((r ∷ rs) ∷ more) b = if is_in r b then Some rs else ranges_after more b

-- the longest front of the bytes that fits these ranges
abbrev pub fitting : List Range → List ℕ → List ℕ
fitting (r ∷ rs) (b ∷ d) = if is_in r b then b ∷ fitting rs d else []
fitting rs d = []

-- the piece of a first byte and the bytes that fit after it, given how many bytes the row has after the first
abbrev pub utf_8_piece : ℕ → List ℕ → ℕ → Piece
utf_8_piece b bs asked = piece (b ∷ bs) (if length bs == asked then sequence_character (b ∷ bs) else replacement)

-- the first piece, given the ranges after the first byte; a byte without a row is a piece by itself
abbrev pub utf_8_piece_by : Option (List Range) → ℕ → List ℕ → Piece
utf_8_piece_by None b d = piece (b ∷ []) replacement
utf_8_piece_by (Some rs) b d = utf_8_piece b (fitting rs d) (length rs)

-- the first piece of a first byte and the bytes after it
abbrev pub first_utf_8_piece : ℕ → List ℕ → Piece
first_utf_8_piece b d = utf_8_piece_by (ranges_after well_formed_rows b) b d

-- the piece that begins with a high surrogate made of these two bytes, given the bytes after it
abbrev pub high_piece : (ℕ → ℕ → ℕ) → ℕ → ℕ → List ℕ → Piece
high_piece unit a b [] = piece (a ∷ b ∷ []) replacement
high_piece unit a b (c ∷ []) = piece (a ∷ b ∷ c ∷ []) replacement
high_piece unit a b (c ∷ d ∷ more) =
    if is_low (unit c d) then piece (a ∷ b ∷ c ∷ d ∷ []) (pair_character (unit a b) (unit c d))
    else piece (a ∷ b ∷ []) replacement

-- the first piece of a first byte and the bytes after it
abbrev pub first_utf_16_piece : (ℕ → ℕ → ℕ) → ℕ → List ℕ → Piece
first_utf_16_piece unit a [] = piece (a ∷ []) replacement
first_utf_16_piece unit a (b ∷ d) =
    if is_high (unit a b) then high_piece unit a b d
    else piece (a ∷ b ∷ []) (if is_low (unit a b) then replacement else unit a b)

-- the first piece of a first byte and the bytes after it
abbrev pub first_piece : Encoding → ℕ → List ℕ → Piece
first_piece windows_1252 b d = piece (b ∷ []) (windows_1252_character b)
first_piece utf_8 b d = first_utf_8_piece b d
first_piece utf_16le b d = first_utf_16_piece low_first b d
first_piece utf_16be b d = first_utf_16_piece high_first b d

-- the pieces, at most n of them
abbrev pub pieces_within : Encoding → ℕ → List ℕ → List Piece
pieces_within e n [] = []
pieces_within e zero (b ∷ d) = []
pieces_within e (suc n) (b ∷ d) = let p = first_piece e b d in p ∷ pieces_within e n (drop (length p.bytes) (b ∷ d))

-- the pieces of some bytes; there are at most as many pieces as bytes
unfoldable pub pieces_of : Encoding → List ℕ → List Piece
pieces_of e d = pieces_within e (length d) d

-- the text of an input: its body, decoded in the encoding in force
abbrev pub decoded_of : Encoding → List ℕ → List ℕ
decoded_of e b = piece_characters (pieces_of (byte_order_mark e b).encoding (byte_order_mark e b).body)

-- the characters of some bytes: in this encoding, or after any byte order mark if the bytes may begin with one
abbrev pub characters_from : Encoding → Bool → List ℕ → List ℕ
characters_from e true d = piece_characters (pieces_of e d)
characters_from e false d = decoded_of e d

-- ---- Incomplete bytes: the next bytes may still change their byte order mark or their first piece.

-- whether the list is a beginning of the other, which is longer
abbrev pub begins_longer : List ℕ → List ℕ → Bool
begins_longer b [] = false
begins_longer [] (m ∷ ms) = true
begins_longer (x ∷ b) (m ∷ ms) = m == x && begins_longer b ms

-- whether the bytes at the front of an input may become a byte order mark
abbrev pub awaits_bom : List ℕ → Bool
awaits_bom b = begins_longer b utf_8_bom || (begins_longer b utf_16be_bom || begins_longer b utf_16le_bom)

-- whether the bytes fit the first of these ranges, and there are fewer bytes than ranges
abbrev pub fits_short : List Range → List ℕ → Bool
fits_short [] d = false
fits_short (r ∷ rs) [] = true
fits_short (r ∷ rs) (b ∷ d) = is_in r b && fits_short rs d

-- whether a UTF-8 sequence is incomplete, given the ranges after its first byte
abbrev pub awaits_byte : Option (List Range) → List ℕ → Bool
awaits_byte None d = false
awaits_byte (Some rs) d = fits_short rs d

-- whether a UTF-16 unit is incomplete, or a high surrogate isn't followed by a whole unit
abbrev pub awaits_unit : (ℕ → ℕ → ℕ) → ℕ → List ℕ → Bool
awaits_unit unit a [] = true
awaits_unit unit a (b ∷ []) = is_high (unit a b)
awaits_unit unit a (b ∷ c ∷ []) = is_high (unit a b)
awaits_unit unit a (b ∷ c ∷ d ∷ more) = false

-- whether the next bytes may change the first piece of a first byte and the bytes after it
abbrev pub awaits_more : Encoding → ℕ → List ℕ → Bool
awaits_more windows_1252 b d = false
awaits_more utf_8 b d = awaits_byte (ranges_after well_formed_rows b) d
awaits_more utf_16le b d = awaits_unit low_first b d
awaits_more utf_16be b d = awaits_unit high_first b d
