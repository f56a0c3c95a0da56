-- The characters of the sequences of each row: scalar values. Only the first row has those of ASCII.
use Rattle.std.proofs.Common.{◌≡◌, ℕ, ◌%◌, ◌^◌, ◌<◌, ◌≤◌, List, [], ◌∷◌, ap, inl, arith}
use Rattle.properties_format.specs.Text.{scalar}
use Rattle.properties_format.specs.Utf8.{IsWellFormed, sequence_character}

-- ---- The character of a sequence is a scalar value.

-- if the character is ASCII, the sequence is one byte
abbrev pub IsAsciiAlone : List ℕ → Type 0
IsAsciiAlone bs = sequence_character bs < 0x80 → bs ≡ sequence_character bs ∷ []

abbrev Fine : List ℕ → Type 0
Fine bs = scalar (sequence_character bs) × IsAsciiAlone bs

-- One byte below 80 hexadecimal is the sequence of a scalar value, namely of an ASCII character.
ascii-fine : (a : ℕ) → a ≤ 0x7f → Fine (a ∷ [])
ascii-fine a h = let e : a ≡ a % 2 ^ 7 = omega arith in (inl (omega arith), λ k. ap (λ v. v ∷ []) e)

-- This holds for every well-formed sequence.
row-fine : (bs : List ℕ) → IsWellFormed bs → Fine bs
row-fine bs h = grind (arith, ascii-fine)

-- The character of a well-formed sequence is a scalar value.
pub sequence-scalar : (bs : List ℕ) → IsWellFormed bs → scalar (sequence_character bs)
sequence-scalar bs h = (row-fine bs h).0
