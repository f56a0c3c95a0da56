-- The digits of a UTF-16 unit, and the value that they are read as.
use Rattle.std.proofs.Common.{◌≡◌, ◌==◌, ℕ, ◌+◌, ◌*◌, ◌/◌, ◌%◌, ◌<◌, true, false, arith}
use Rattle.std.specs.Char.{digit_char}
use Rattle.std.proofs.lemmas.Bool.{and_from, and_parts, le-leb, lt-ltb}
use Rattle.properties_format.specs.Text.{backslash, is_blank, is_line_ending, is_separator}
use Rattle.properties_format.specs.Escapes.{is_hexadecimal, hexadecimal_value, Four, are_hexadecimal, code_unit, is_high, is_low}
use Rattle.properties_format.specs.Printing.{high_surrogate, low_surrogate}

-- The digit of a number below 16 is a hexadecimal digit.
pub is_hexadecimal-char : (n : ℕ) → n < 16 → is_hexadecimal (digit_char n) ≡ true
is_hexadecimal-char n h = grind (arith)

-- The value of that digit is the number.
pub hexadecimal_value-char : (n : ℕ) → n < 16 → hexadecimal_value (digit_char n) ≡ n
hexadecimal_value-char n h = grind (arith)

-- A hexadecimal digit isn't a backslash, a blank or a separator.
pub hexadecimal-plain : (c : ℕ) → is_hexadecimal c ≡ true → ((c == backslash) ≡ false) × (is_blank c ≡ false) × (is_separator c ≡ false)
hexadecimal-plain c h = (not_backslash c h, grind (arith), grind (arith))
  where
    not_backslash : (c : ℕ) → is_hexadecimal c ≡ true → (c == backslash) ≡ false
    not_backslash c h = grind (arith)

-- A hexadecimal digit isn't a line ending.
pub digit-plain : (c : ℕ) → is_hexadecimal c ≡ true → is_line_ending c ≡ false
digit-plain c h = grind (arith)

-- Each of four hexadecimal digits is a hexadecimal digit.
pub digits : (d : Four) → are_hexadecimal d ≡ true
    → (is_hexadecimal d.first ≡ true) × (is_hexadecimal d.second ≡ true) × (is_hexadecimal d.third ≡ true) × (is_hexadecimal d.fourth ≡ true)
digits d h = grind (arith, and_parts)

-- the four lower-case digits of a unit
abbrev pub unit_digits : ℕ → Four
unit_digits u = record { first = digit_char (u / 0x1000 % 0x10); second = digit_char (u / 0x100 % 0x10); third = digit_char (u / 0x10 % 0x10); fourth = digit_char (u % 0x10) }

-- A remainder modulo 16 is below 16.
below : (n : ℕ) → n % 0x10 < 0x10
below n = omega arith

-- The four digits are hexadecimal.
pub unit_digits-hexadecimal : (u : ℕ) → are_hexadecimal (unit_digits u) ≡ true
unit_digits-hexadecimal u = simp (and_from, is_hexadecimal-char, below)

-- A number below 10000 hexadecimal is the value of its four digits.
four-digits : (u : ℕ) → u < 0x1_0000 → ((u / 0x1000 % 0x10 * 16 + u / 0x100 % 0x10) * 16 + u / 0x10 % 0x10) * 16 + u % 0x10 ≡ u
four-digits u h = omega arith

-- The value of the four digits is the unit.
pub unit_digits-unit : (u : ℕ) → u < 0x1_0000 → code_unit (unit_digits u) ≡ u
unit_digits-unit u h = simp (hexadecimal_value-char, below, four-digits)

-- The first surrogate of a character above U+FFFF is a high one.
pub high_surrogate-high : (c : ℕ) → c < 0x11_0000 → is_high (high_surrogate c) ≡ true
high_surrogate-high c h = and_from _ _ (le-leb 0xd800 (high_surrogate c) (omega arith)) (lt-ltb (high_surrogate c) 0xdc00 (omega arith))

-- The second surrogate is a low one.
pub low_surrogate-low : (c : ℕ) → is_low (low_surrogate c) ≡ true
low_surrogate-low c = and_from _ _ (le-leb 0xdc00 (low_surrogate c) (omega arith)) (lt-ltb (low_surrogate c) 0xe000 (omega arith))
