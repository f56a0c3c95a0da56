-- The characters of pieces: each is a scalar value, an ASCII character has its own bytes, and an encoded character is a
-- piece.
use Rattle.std.proofs.Common.{rules, ◌≡◌, ℕ, ◌<◌, true, false, List, [], ◌∷◌, ◌++◌, Option, Some, None, All, refl, sym, ap, ap₂, inl, arith}
use Rattle.std.specs.List.{AllByRecursion}
use Rattle.std.proofs.lemmas.List.Elements.{recursion_from_All, All-nil, All-cons}
use Rattle.std.proofs.lemmas.Option.{none-some, same_Some}
use Rattle.properties_format.specs.Text.{byte, scalar, Piece, piece, piece_characters}
use Rattle.properties_format.specs.Windows1252.{windows_1252_byte}
use Rattle.properties_format.specs.Utf16.{is_high, is_low, pair_character, low_first, high_first, plain}
use Rattle.properties_format.specs.Encoding.{Encoding, windows_1252, utf_8, utf_16le, utf_16be, output_encoding, one_byte, encoded, IsPiece, IsPieces, ascii_bytes}
use Rattle.properties_format.specs.Computed.Encoding.{pieces_of}
use Rattle.properties_format.proofs.Encodings.Windows1252.{windows_1252_character-byte, windows_1252-scalar, windows_1252-ascii, windows_1252_character-ascii}
use Rattle.properties_format.proofs.Encodings.Utf8Characters.{encode-one, encode-is_sequence}
use Rattle.properties_format.proofs.Encodings.Pieces.{pieces_of-meets, pieces_of-piece}

-- ---- An encoded character is a piece of it.

-- In windows-1252, the byte of a character is a piece of it.
windows_1252-encoded : (c : ℕ) (bs y : List ℕ) (o : Option ℕ) → windows_1252_byte c ≡ o → one_byte o ≡ Some bs → IsPiece windows_1252 (piece bs c) y
windows_1252-encoded c bs y None e h = absurd (none-some bs h)
windows_1252-encoded c bs y (Some b) e h = (b, ap₂ piece (sym (same_Some (b ∷ []) bs h)) (sym (windows_1252_character-byte c b e).0))

-- In the encoding that is written, the bytes of a scalar value are a piece of it, whatever follows.
pub encoded-piece : (e : Encoding) (c : ℕ) (bs y : List ℕ) → scalar c → encoded e c ≡ Some bs → IsPiece (output_encoding e) (piece bs c) y
encoded-piece windows_1252 c bs y h k = windows_1252-encoded c bs y (windows_1252_byte c) refl k
encoded-piece e c bs y h k = search (rules, encode-is_sequence)

-- Decoding inverts encoding: an encoded character at the front is its piece, whatever follows.
pub pieces_of-encoded : (e : Encoding) (c : ℕ) (bs y : List ℕ) → scalar c → encoded e c ≡ Some bs
    → pieces_of (output_encoding e) (bs ++ y) ≡ piece bs c ∷ pieces_of (output_encoding e) y
pieces_of-encoded e c bs y h k = pieces_of-piece (output_encoding e) (piece bs c) y (encoded-piece e c bs y h k)

-- ---- An ASCII character.

-- A unit below 80 hexadecimal isn't a surrogate.
not-surrogate : (u : ℕ) → u < 0x80 → (is_high u ≡ false) × (is_low u ≡ false)
not-surrogate u h = grind (arith)

-- The bytes of an ASCII character are a piece of it, whatever follows.
pub ascii-piece : (e : Encoding) (c : ℕ) (y : List ℕ) → c < 0x80 → IsPiece e (piece (ascii_bytes e c) c) y
ascii-piece windows_1252 c y h = (c, ap (λ v. piece (c ∷ []) v) (sym (windows_1252_character-ascii c h)))
ascii-piece utf_8 c y h = encoded-piece utf_8 c (c ∷ []) y (inl (omega arith)) (ap Some (encode-one c h))
ascii-piece utf_16le c y h =
    let e : c ≡ low_first c 0 = omega arith in
    let k = not-surrogate (low_first c 0) (omega arith) in
    plain c 0 (ap (λ v. piece (c ∷ 0 ∷ []) v) e) k.0 k.1
ascii-piece utf_16be c y h =
    let e : c ≡ high_first 0 c = omega arith in
    let k = not-surrogate (high_first 0 c) (omega arith) in
    plain 0 c (ap (λ v. piece (0 ∷ c ∷ []) v) e) k.0 k.1

-- The bytes of an ASCII character at the front are the first piece, whatever follows.
pub pieces_of-ascii : (e : Encoding) (c : ℕ) (y : List ℕ) → c < 0x80 → pieces_of e (ascii_bytes e c ++ y) ≡ piece (ascii_bytes e c) c ∷ pieces_of e y
pieces_of-ascii e c y h = pieces_of-piece e (piece (ascii_bytes e c) c) y (ascii-piece e c y h)

-- In each encoding, a piece of an ASCII character has that character's bytes.
pub piece-ascii : (e : Encoding) (p : Piece) (rest : List ℕ) → IsPiece e p rest → p.character < 0x80 → p.bytes ≡ ascii_bytes e p.character
piece-ascii e p rest h k = grind (arith, windows_1252-ascii)

-- ---- Each character is a scalar value.

-- The character of a high and a low surrogate is a scalar value.
pub pair-scalar : (u v : ℕ) → is_high u ≡ true → is_low v ≡ true → scalar (pair_character u v)
pair-scalar u v h k = grind (arith)

-- The rest of a list of bytes is a list of bytes.
back-bytes : (xs ys : List ℕ) → AllByRecursion byte (xs ++ ys) → AllByRecursion byte ys
back-bytes [] ys h = h
back-bytes (x ∷ xs) ys h = back-bytes xs ys h.1

-- The characters of all pieces of bytes are scalar values.
pieces-scalar : (e : Encoding) (d : List ℕ) (ps : List Piece) → IsPieces e d ps → AllByRecursion byte d → All scalar (piece_characters ps)
pieces-scalar e d [] h l = All-nil scalar
pieces-scalar e d (p ∷ ps) (rest, s, h, k) l =
    let m : AllByRecursion byte (p.bytes ++ rest) = rw s at l in
    All-cons scalar p.character (piece_characters ps) (search (rules, windows_1252-scalar)) (pieces-scalar e rest ps k (back-bytes p.bytes rest m))

-- The characters of the computed pieces are scalar values.
pub pieces_of-scalar : (e : Encoding) (d : List ℕ) → All byte d → All scalar (piece_characters (pieces_of e d))
pieces_of-scalar e d h = pieces-scalar e d (pieces_of e d) (pieces_of-meets e d) (recursion_from_All byte d h)
