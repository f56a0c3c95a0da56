-- Characters of Latin-1, which have one or two bytes in UTF-8; and sequences of UTF-8 whose second byte may be any tail.
use Rattle.std.specs.Prelude.{ℕ, ◌-◌, nat_lt, if◌then◌else◌, ◌≡◌, zero, suc, ◌+◌, ◌*◌, ◌≤◌, ◌⊎◌, List, [], ◌∷◌}

-- the first byte of a character that has two
abbrev pub lead_byte : ℕ → ℕ
lead_byte c = if nat_lt c 0xc0 then 0xc2 else 0xc3

-- the second byte, or the character itself if it is ASCII
abbrev pub last_byte : ℕ → ℕ
last_byte c = if nat_lt c 0xc0 then c else c - 0x40

-- The byte may come after the first of a sequence.
abbrev pub IsTail : ℕ → Type 0
IsTail b = (0x80 ≤ b) × (b ≤ 0xbf)

-- The byte begins a sequence, and any n tails complete it.
abbrev pub BeginsBefore : ℕ → ℕ → Type 0
BeginsBefore zero b = b ≤ 0x7f
BeginsBefore (suc zero) b = (0xc2 ≤ b) × (b ≤ 0xdf)
BeginsBefore (suc (suc zero)) b = ((0xe1 ≤ b) × (b ≤ 0xec)) ⊎ ((0xee ≤ b) × (b ≤ 0xef))
BeginsBefore (suc (suc (suc zero))) b = (0xf1 ≤ b) × (b ≤ 0xf3)
BeginsBefore (suc (suc (suc (suc n)))) b = ⊥

-- The bytes are n tails and then such sequences, and m tails complete the last one.
abbrev pub OwesTails : ℕ → List ℕ → ℕ → Type 0
OwesTails n [] m = n ≡ m
OwesTails zero (b ∷ bs) m = (n : ℕ) × BeginsBefore n b × OwesTails n bs m
OwesTails (suc n) (b ∷ bs) m = IsTail b × OwesTails n bs m

-- the number whose lowest n bits are set, and no others
abbrev pub ones : ℕ → ℕ
ones zero = 0
ones (suc n) = 1 + 2 * ones n
