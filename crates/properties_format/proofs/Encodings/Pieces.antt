-- The pieces of some bytes are the computed ones, and no others.
use Rattle.std.proofs.Common.{rules, ◌≡◌, ℕ, zero, suc, ◌<◌, ◌≤◌, List, [], ◌∷◌, ◌++◌, length, refl, sym, ap, ◌∙◌, arith, length-append}
use Rattle.std.proofs.Math.Seq.{drop-append_seam}
use Rattle.properties_format.specs.Text.{Piece, piece_characters}
use Rattle.properties_format.specs.Utf16.{low_first, high_first}
use Rattle.properties_format.specs.Encoding.{Encoding, windows_1252, utf_8, utf_16le, utf_16be, IsPiece, IsPieces, IsDecoded, byte_order_mark}
use Rattle.properties_format.specs.Computed.Encoding.{first_piece, pieces_within, pieces_of, decoded_of}
use Rattle.properties_format.proofs.Encodings.FirstPieces.{Meets, IsRead}
use Rattle.properties_format.proofs.Encodings.Utf8Pieces.{utf_8-meets, utf_8-read}
use Rattle.properties_format.proofs.Encodings.Utf16.{utf_16-meets, utf_16-read}

-- ---- The first piece.

-- The computed piece is a piece at the front of the bytes.
pub first-meets : (e : Encoding) (b : ℕ) (d : List ℕ) → Meets (IsPiece e) (first_piece e b d) (b ∷ d)
first-meets windows_1252 b d = (d, refl, (b, refl))
first-meets utf_8 b d = utf_8-meets b d
first-meets utf_16le b d = utf_16-meets low_first b d
first-meets utf_16be b d = utf_16-meets high_first b d

-- A piece at the front is the computed one.
pub piece-read : (e : Encoding) (p : Piece) (rest : List ℕ) → IsPiece e p rest → IsRead (first_piece e) p rest
piece-read windows_1252 p rest (b, e) = rw e (record { byte = b; others = []; bytes = refl; reads = refl })
piece-read utf_8 p rest h = utf_8-read p rest h
piece-read utf_16le p rest h = utf_16-read low_first p rest h
piece-read utf_16be p rest h = utf_16-read high_first p rest h

-- ---- All pieces.

-- A piece isn't empty.
pub piece-length : (e : Encoding) (p : Piece) (rest : List ℕ) → IsPiece e p rest → length rest < length (p.bytes ++ rest)
piece-length e p rest h = grind (arith, length-append)

-- The pieces of at most n bytes are the computed ones, limited to n.
within-only : (e : Encoding) (n : ℕ) (d : List ℕ) (ps : List Piece) → length d ≤ n → IsPieces e d ps → pieces_within e n d ≡ ps
within-only e n d [] l h = ap (pieces_within e n) h
within-only e zero d (p ∷ ps) l (rest, s, h, k) = grind (arith)
within-only e (suc n) d (p ∷ ps) l (rest, s, h, k) =
    let m = piece-length e p rest h in
    let q : length d ≡ length (p.bytes ++ rest) = ap length s in
    let t : length rest ≤ n = omega arith in
    ap (pieces_within e (suc n)) s ∙ search (rules, piece-read, drop-append_seam) ∙ ap (λ v. p ∷ v) (within-only e n rest ps t k)

-- The computed pieces are pieces of the bytes.
within-meets : (e : Encoding) (n : ℕ) (d : List ℕ) → length d ≤ n → IsPieces e d (pieces_within e n d)
within-meets e n [] l = refl
within-meets e zero (b ∷ d) l = absurd (omega arith)
within-meets e (suc n) (b ∷ d) l =
    let m = first-meets e b d in
    let r = piece-length e (first_piece e b d) m.0 m.2 in
    let q : length (b ∷ d) ≡ length ((first_piece e b d).bytes ++ m.0) = ap length m.1 in
    let t : length m.0 ≤ n = omega arith in
    grind (arith, drop-append_seam, within-meets e n m.0 t)

-- The computed pieces are pieces of the bytes, and there are no others.
pub pieces_of-meets : (e : Encoding) (d : List ℕ) → IsPieces e d (pieces_of e d)
unfolding pieces_of
pieces_of-meets e d = within-meets e (length d) d (omega arith)

-- Pieces of some bytes are the computed ones.
pub pieces_of-only : (e : Encoding) (d : List ℕ) (ps : List Piece) → IsPieces e d ps → ps ≡ pieces_of e d
unfolding pieces_of
pieces_of-only e d ps h = sym (within-only e (length d) d ps (omega arith) h)

-- Some bytes decode to the computed text, and to no other.
pub decoded_of-meets : (e : Encoding) (b : List ℕ) → IsDecoded e b (decoded_of e b)
decoded_of-meets e b = grind (arith, pieces_of-meets)

-- A text that some bytes decode to is the computed one.
pub decoded_of-only : (e : Encoding) (b x : List ℕ) → IsDecoded e b x → x ≡ decoded_of e b
decoded_of-only e b x (ps, h, s) = s ∙ ap piece_characters (pieces_of-only (byte_order_mark e b).encoding (byte_order_mark e b).body ps h)

-- ---- Pieces at the front.

-- An empty list of bytes has no pieces.
pub pieces_of-nil : (e : Encoding) → pieces_of e [] ≡ []
pieces_of-nil e = sym (pieces_of-only e [] [] refl)

-- A piece before the rest is the first of the pieces.
pub pieces_of-piece : (e : Encoding) (p : Piece) (rest : List ℕ) → IsPiece e p rest → pieces_of e (p.bytes ++ rest) ≡ p ∷ pieces_of e rest
pieces_of-piece e p rest h = sym (pieces_of-only e (p.bytes ++ rest) (p ∷ pieces_of e rest) (rest, refl, h, pieces_of-meets e rest))
