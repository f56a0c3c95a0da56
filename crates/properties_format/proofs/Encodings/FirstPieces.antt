-- What is known about the first piece of some bytes, in each encoding.
use Rattle.std.proofs.Common.{◌≡◌, ℕ, List, ◌∷◌, ◌++◌}
use Rattle.properties_format.specs.Text.{Piece}

-- the bytes are those of the piece and a rest before which it is a piece
abbrev pub Meets : (Piece → List ℕ → Type 0) → Piece → List ℕ → Type 0
Meets IsFirst p d = (rest : List ℕ) × (d ≡ p.bytes ++ rest) × IsFirst p rest

-- The piece has a first byte, and is the one computed from that byte and what follows it.
pub record IsRead (first : ℕ → List ℕ → Piece) (p : Piece) (rest : List ℕ) : Type 0 where
  pub byte : ℕ
  pub others : List ℕ
  pub bytes : p.bytes ≡ byte ∷ others
  pub reads : first byte (others ++ rest) ≡ p
