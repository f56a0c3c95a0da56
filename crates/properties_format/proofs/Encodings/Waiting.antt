-- Bytes that don't wait for more determine their first piece.
use Rattle.std.proofs.Common.{rules, arith, ◌≡◌, ℕ, false, List, ◌∷◌, ◌++◌, length, drop, ap, ◌∙◌, append_assoc}
use Rattle.std.proofs.Math.Seq.{drop-append_seam}
use Rattle.properties_format.specs.Text.{Piece, piece_characters}
use Rattle.properties_format.specs.Computed.Encoding.{first_utf_16_piece, first_piece, pieces_of, awaits_unit, awaits_more}
use Rattle.properties_format.specs.Encoding.{Encoding}
use Rattle.properties_format.proofs.Encodings.Pieces.{first-meets, pieces_of-piece}

-- In UTF-16, what follows bytes that don't wait doesn't change their first piece.
utf_16-decided : (unit : ℕ → ℕ → ℕ) (a : ℕ) (d y : List ℕ) → awaits_unit unit a d ≡ false → first_utf_16_piece unit a (d ++ y) ≡ first_utf_16_piece unit a d
utf_16-decided unit a d y h1 = search rules

-- What follows bytes that don't wait doesn't change their first piece.
pub first_piece-decided : (e : Encoding) (b : ℕ) (d y : List ℕ) → awaits_more e b d ≡ false → first_piece e b (d ++ y) ≡ first_piece e b d
first_piece-decided e b d y h1 = search (rules, utf_16-decided)

-- ---- The first piece and the others.

-- The pieces of some bytes are the first one followed by those of what comes after it.
pub pieces_of-step : (e : Encoding) (b : ℕ) (d : List ℕ)
    → pieces_of e (b ∷ d) ≡ first_piece e b d ∷ pieces_of e (drop (length (first_piece e b d).bytes) (b ∷ d))
pieces_of-step e b d =
    let p : Piece = first_piece e b d in
    let m = first-meets e b d in
    grind (arith, drop-append_seam, pieces_of-piece)

-- The characters of some bytes are that of the first piece followed by those of what comes after it.
pub characters-step : (e : Encoding) (b : ℕ) (d : List ℕ)
    → piece_characters (pieces_of e (b ∷ d)) ≡ (first_piece e b d).character ∷ piece_characters (pieces_of e (drop (length (first_piece e b d).bytes) (b ∷ d)))
characters-step e b d = ap piece_characters (pieces_of-step e b d)

-- The first piece of bytes that don't wait can be taken, whatever follows.
pub pieces_of-decided : (e : Encoding) (b : ℕ) (d y : List ℕ) → awaits_more e b d ≡ false
    → pieces_of e (b ∷ d ++ y) ≡ first_piece e b d ∷ pieces_of e (drop (length (first_piece e b d).bytes) (b ∷ d) ++ y)
pieces_of-decided e b d y h =
    let p : Piece = first_piece e b d in
    let m = first-meets e b d in
    let r : drop (length p.bytes) (b ∷ d) ≡ m.0 = ap (drop (length p.bytes)) m.1 ∙ drop-append_seam p.bytes m.0 in
    let s : b ∷ d ++ y ≡ p.bytes ++ (m.0 ++ y) = ap (λ v. v ++ y) m.1 ∙ append_assoc p.bytes m.0 y in
    grind (arith, pieces_of-step, first_piece-decided, drop-append_seam)
