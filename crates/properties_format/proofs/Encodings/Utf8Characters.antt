-- The characters of UTF-8 sequences.
use Rattle.std.proofs.Common.{rules, ◌≡◌, ℕ, ◌+◌, ◌/◌, ◌%◌, ◌<◌, ◌≤◌, nat_lt, List, [], ◌∷◌, ◌∙◌, arith, lt-ltb}
use Rattle.std.proofs.lemmas.Bool.{cond-true, cond-false, le-ltb}
use Rattle.std.specs.Char.{encode_utf8}
use Rattle.properties_format.specs.Text.{scalar}
use Rattle.properties_format.specs.Utf8.{IsWellFormed, sequence_character}

-- ---- How a character is encoded.

abbrev pub next : ℕ → ℕ
next c = 128 + c % 64

-- Below U+0080, it is encoded as one byte.
pub encode-one : (c : ℕ) → c < 0x80 → encode_utf8 c ≡ c ∷ []
unfolding encode_utf8
encode-one c h = cond-true (nat_lt c 0x80) _ _ (lt-ltb c 0x80 h)

-- From U+0080 to U+07FF, it is encoded as two bytes.
pub encode-two : (c : ℕ) → 0x80 ≤ c → c < 0x800 → encode_utf8 c ≡ (192 + c / 64) ∷ next c ∷ []
unfolding encode_utf8
encode-two c l h = cond-false (nat_lt c 0x80) _ _ (le-ltb c 0x80 l) ∙ cond-true (nat_lt c 0x800) _ _ (lt-ltb c 0x800 h)

-- From U+0800 to U+FFFF, it is encoded as three bytes.
pub encode-three : (c : ℕ) → 0x800 ≤ c → c < 0x1_0000 → encode_utf8 c ≡ (224 + c / 4096) ∷ next (c / 64) ∷ next c ∷ []
unfolding encode_utf8
encode-three c l h = grind (arith)

-- From U+10000 on, it is encoded as four bytes.
pub encode-four : (c : ℕ) → 0x1_0000 ≤ c → encode_utf8 c ≡ (240 + c / 262144) ∷ next (c / 4096) ∷ next (c / 64) ∷ next c ∷ []
unfolding encode_utf8
encode-four c l = grind (arith)

-- the bytes are a well-formed sequence with this character
abbrev pub IsSequenceOf : List ℕ → ℕ → Type 0
IsSequenceOf bs c = IsWellFormed bs × (c ≡ sequence_character bs)

-- From U+0800 on, the bytes of a scalar value are its sequence.
is_sequence-long : (c : ℕ) → 0x800 ≤ c → scalar c → IsSequenceOf (encode_utf8 c) c
is_sequence-long c l h = grind (arith, encode-three, encode-four)

-- The bytes of a character are its sequence.
pub encode-is_sequence : (c : ℕ) → scalar c → IsSequenceOf (encode_utf8 c) c
encode-is_sequence c h = search (rules, encode-one, encode-two, is_sequence-long)
