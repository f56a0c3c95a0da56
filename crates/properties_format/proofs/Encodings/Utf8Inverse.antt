-- A character has exactly one well-formed sequence: its encoding.
use Rattle.std.proofs.Common.{rules, ◌≡◌, ℕ, ◌≤◌, List, [], ◌∷◌, arith}
use Rattle.std.specs.Char.{encode_utf8}
use Rattle.properties_format.specs.Utf8.{tail, IsIn, IsWellFormed, sequence_character}
use Rattle.properties_format.proofs.Encodings.Utf8Characters.{encode-one, encode-two, encode-three, encode-four}

abbrev Inverts : List ℕ → Type 0
Inverts bs = encode_utf8 (sequence_character bs) ≡ bs

-- Encoding the character of a two-byte sequence gives the sequence back.
invert-two : (a b : ℕ) → 0xc2 ≤ a → a ≤ 0xdf → IsIn tail b → Inverts (a ∷ b ∷ [])
invert-two a b h k l = grind (arith, encode-two)

-- Encoding the character of a three-byte sequence gives the sequence back, if the character is U+0800 or above.
invert-three : (a b c : ℕ) → 0xe0 ≤ a → a ≤ 0xef → IsIn tail b → IsIn tail c → 0x800 ≤ sequence_character (a ∷ b ∷ c ∷ []) → Inverts (a ∷ b ∷ c ∷ [])
invert-three a b c h k l m n = grind (arith, encode-three)

-- Encoding the character of a four-byte sequence gives the sequence back, if the character is U+10000 or above.
invert-four : (a b c d : ℕ) → 0xf0 ≤ a → a ≤ 0xf4 → IsIn tail b → IsIn tail c → IsIn tail d → 0x1_0000 ≤ sequence_character (a ∷ b ∷ c ∷ d ∷ [])
    → Inverts (a ∷ b ∷ c ∷ d ∷ [])
invert-four a b c d h k l m n o = grind (arith, encode-four)

-- Encoding the character of a sequence gives the sequence back.
pub encode-sequence : (bs : List ℕ) → IsWellFormed bs → encode_utf8 (sequence_character bs) ≡ bs
encode-sequence bs h = search (rules, invert-two, invert-three, invert-four, encode-one)
