-- windows-1252: each byte is one character, by one table.
-- Source: WHATWG Encoding Standard, section 9 and index windows-1252.
use Rattle.std.specs.Prelude.{◌≡◌, ℕ, ◌+◌, ◌-◌, ◌==◌, ◌&&◌, not, Bool, if◌then◌else◌, nat_lt, nat_le, slice_index, List, [], ◌∷◌, Option, Some, None}
use Rattle.properties_format.specs.Text.{Piece, piece}

-- the characters of the bytes 80 to 9F
abbrev pub windows_1252_table : List ℕ
windows_1252_table =
    0x20ac ∷ 0x0081 ∷ 0x201a ∷ 0x0192 ∷ 0x201e ∷ 0x2026 ∷ 0x2020 ∷ 0x2021
    ∷ 0x02c6 ∷ 0x2030 ∷ 0x0160 ∷ 0x2039 ∷ 0x0152 ∷ 0x008d ∷ 0x017d ∷ 0x008f
    ∷ 0x0090 ∷ 0x2018 ∷ 0x2019 ∷ 0x201c ∷ 0x201d ∷ 0x2022 ∷ 0x2013 ∷ 0x2014
    ∷ 0x02dc ∷ 0x2122 ∷ 0x0161 ∷ 0x203a ∷ 0x0153 ∷ 0x009d ∷ 0x017e ∷ 0x0178
    ∷ []

-- whether a number is from 80 to 9F
abbrev pub is_in_table : ℕ → Bool
is_in_table b = nat_le 0x80 b && nat_lt b 0xa0

-- the character of a byte: from the table for 80 to 9F, otherwise the one with the same number
abbrev pub windows_1252_character : ℕ → ℕ
windows_1252_character b = if is_in_table b then slice_index windows_1252_table (b - 0x80) else b

-- the index of the first occurrence of a character in a list, counted from this number
abbrev pub place_from : ℕ → List ℕ → ℕ → Option ℕ
place_from n [] c = None
place_from n (x ∷ xs) c = if x == c then Some n else place_from (n + 1) xs c

-- the byte of a character, or `None` if it has none
abbrev pub windows_1252_byte : ℕ → Option ℕ
windows_1252_byte c = if nat_lt c 0x100 && not (is_in_table c) then Some c else place_from 0x80 windows_1252_table c

-- A piece is one byte with its character.
abbrev pub IsWindows1252Piece : Piece → Type 0
IsWindows1252Piece p = (b : ℕ) × (p ≡ piece (b ∷ []) (windows_1252_character b))
