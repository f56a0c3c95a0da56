-- UTF-16 in either byte order: units of two bytes, surrogates, and the replacement of unpaired surrogates.
-- Source: The Unicode Standard, section 3.8 (surrogates) and D91 (UTF-16); WHATWG Encoding Standard, section 14.2.
use Rattle.std.specs.Prelude.{ℕ, ◌+◌, ◌-◌, ◌*◌, ◌&&◌, ◌||◌, nat_le, nat_lt, Bool, ◌≡◌, true, false, List, [], ◌∷◌}
use Rattle.properties_format.specs.Text.{Piece, piece, replacement}

-- whether a unit is a high surrogate, a low surrogate, and either of them
abbrev pub is_high : ℕ → Bool
is_high u = nat_le 0xd800 u && nat_lt u 0xdc00

abbrev pub is_low : ℕ → Bool
is_low u = nat_le 0xdc00 u && nat_lt u 0xe000

abbrev pub is_surrogate : ℕ → Bool
is_surrogate u = is_high u || is_low u

-- the character of a high and a low surrogate
abbrev pub pair_character : ℕ → ℕ → ℕ
pair_character high low = 0x1_0000 + (high - 0xd800) * 0x400 + (low - 0xdc00)

-- the unit of two bytes, with the low byte first or the high byte first
abbrev pub low_first : ℕ → ℕ → ℕ
low_first a b = b * 0x100 + a

abbrev pub high_first : ℕ → ℕ → ℕ
high_first a b = a * 0x100 + b

-- A piece before the rest: a high and a low surrogate; a unit that isn't a surrogate; as U+FFFD, a low surrogate, or a
-- high surrogate before a whole unit that isn't a low one; and at the end, as U+FFFD, a high surrogate, a single byte,
-- or both.
pub data IsUtf16Piece (unit : ℕ → ℕ → ℕ) (p : Piece) (rest : List ℕ) : Type 0 where
  pair : (a b c d : ℕ) → p ≡ piece (a ∷ b ∷ c ∷ d ∷ []) (pair_character (unit a b) (unit c d))
      → is_high (unit a b) ≡ true → is_low (unit c d) ≡ true → IsUtf16Piece unit p rest
  plain : (a b : ℕ) → p ≡ piece (a ∷ b ∷ []) (unit a b)
      → is_high (unit a b) ≡ false → is_low (unit a b) ≡ false → IsUtf16Piece unit p rest
  low_alone : (a b : ℕ) → p ≡ piece (a ∷ b ∷ []) replacement → is_low (unit a b) ≡ true → IsUtf16Piece unit p rest
  high_alone : (a b c d : ℕ) (more : List ℕ) → p ≡ piece (a ∷ b ∷ []) replacement → is_high (unit a b) ≡ true
      → rest ≡ c ∷ d ∷ more → is_low (unit c d) ≡ false → IsUtf16Piece unit p rest
  high_last : (a b : ℕ) → p ≡ piece (a ∷ b ∷ []) replacement → is_high (unit a b) ≡ true → rest ≡ [] → IsUtf16Piece unit p rest
  byte_last : (a : ℕ) → p ≡ piece (a ∷ []) replacement → rest ≡ [] → IsUtf16Piece unit p rest
  both_last : (a b c : ℕ) → p ≡ piece (a ∷ b ∷ c ∷ []) replacement → is_high (unit a b) ≡ true → rest ≡ [] → IsUtf16Piece unit p rest
