-- `\u` escapes, read from their bytes.
use Rattle.std.proofs.Common.{◌≡◌, ℕ, ◌+◌, ◌*◌, ◌<◌, ◌≤◌, ◌==◌, ◌&&◌, true, false, List, ◌++◌, take, get_or, refl, arith}
use Rattle.std.specs.Prelude.{nat_le}
use Rattle.std.specs.Str.{IsUtf8, chars}
use Rattle.std.proofs.lemmas.Bool.{false_from_ne_true, cond-true, and_parts, and_from, agree_below_at, eqb-true, leb-true}
use Rattle.std.proofs.lemmas.Bool.Decides.{nat_tests}
use Rattle.std.proofs.lemmas.Str.{IsUtf8-append, IsUtf8-encode}
use Rattle.std.specs.Char.{IsScalar, encode_utf8}
use Rattle.properties_format.specs.Escapes.{is_hexadecimal, hexadecimal_value, Four, are_hexadecimal, code_unit}
use Rattle.properties_format.specs.Computed.Escapes.{in_front, text_in_front, meaning_of}
use Rattle.properties_text.specs.Escaping.{digit_value, four_bytes}
use Rattle.properties_text.specs.declared.escape.read.TheConstants.{DIGIT_VALUES}
use Rattle.properties_format.proofs.Escapes.Scalars.{code_unit-below}
use Rattle.properties_text.proofs.TextFronts.{chars-more}
use Rattle.properties_text.proofs.Texts.Resolving.{text_in_front-append}

-- Each row of the table.
pub digit_at : (b : ℕ) → b < 256 → get_or DIGIT_VALUES b 0 ≡ digit_value b
digit_at b h = eqb-true _ _ (agree_below_at (λ b. get_or DIGIT_VALUES b 0 == digit_value b) (λ k. true) 256 b refl h)

-- No entry is larger than that of a byte that is no digit.
pub digit-small : (b : ℕ) → b < 256 → get_or DIGIT_VALUES b 0 ≤ 0x10000
digit-small b h = leb-true _ _ (agree_below_at (λ b. nat_le (get_or DIGIT_VALUES b 0) 0x10000) (λ k. true) 256 b refl h)

-- A byte whose value is less than that of a non-digit is a digit.
digit-is : (b : ℕ) → digit_value b < 0x10000 → is_hexadecimal b ≡ true
digit-is b h = grind (arith, nat_tests)

-- The value of a digit.
digit-of : (b : ℕ) → is_hexadecimal b ≡ true → digit_value b ≡ hexadecimal_value b
digit-of b t = cond-true (is_hexadecimal b) _ _ t

-- A digit is ASCII.
digit-ascii : (b : ℕ) → is_hexadecimal b ≡ true → b < 128
digit-ascii b h = grind (arith, nat_tests)

-- The value of four digits.
digits-value : (a b c d : ℕ) → are_hexadecimal (four_bytes a b c d) ≡ true
    → digit_value a * 0x1000 + digit_value b * 0x100 + digit_value c * 0x10 + digit_value d ≡ code_unit (four_bytes a b c d)
digits-value a b c d h =
    let p = and_parts (is_hexadecimal a && is_hexadecimal b) (is_hexadecimal c && is_hexadecimal d) h in
    let q = and_parts (is_hexadecimal a) (is_hexadecimal b) p.0 in
    let r = and_parts (is_hexadecimal c) (is_hexadecimal d) p.1 in
    omega (arith, digit-of a q.0, digit-of b q.1, digit-of c r.0, digit-of d r.1)

-- The sum of what four bytes are worth is their value, if all of them are digits.
pub four-digits : (a b c d m n o p : ℕ) → m ≡ digit_value a → n ≡ digit_value b → o ≡ digit_value c → p ≡ digit_value d
    → m * 0x1000 + n * 0x100 + o * 0x10 + p < 0x10000
    → (are_hexadecimal (four_bytes a b c d) ≡ true) × (m * 0x1000 + n * 0x100 + o * 0x10 + p ≡ code_unit (four_bytes a b c d))
four-digits a b c d m n o p m-is n-is o-is p-is h =
    let first = digit-is a (omega (arith, h)) in
    let second = digit-is b (omega (arith, h)) in
    let third = digit-is c (omega (arith, h)) in
    let fourth = digit-is d (omega (arith, h)) in
    let all = and_from (is_hexadecimal a && is_hexadecimal b) _ (and_from (is_hexadecimal a) _ first second) (and_from (is_hexadecimal c) _ third fourth) in
    (all, omega (arith, digits-value a b c d all))

-- If it is too large, one of them isn't.
pub no-four-digits : (a b c d m n o p : ℕ) → m ≡ digit_value a → n ≡ digit_value b → o ≡ digit_value c → p ≡ digit_value d
    → 0x10000 ≤ m * 0x1000 + n * 0x100 + o * 0x10 + p → are_hexadecimal (four_bytes a b c d) ≡ false
no-four-digits a b c d m n o p m-is n-is o-is p-is h = false_from_ne_true (are_hexadecimal (four_bytes a b c d)) (λ t.
    omega (arith, h, digits-value a b c d t, code_unit-below (four_bytes a b c d) t))

-- Digits are ASCII.
pub ascii-digits : (d : Four) → are_hexadecimal d ≡ true → (d.first < 128) × (d.second < 128) × (d.third < 128) × (d.fourth < 128)
ascii-digits d h =
    let p = and_parts (is_hexadecimal d.first && is_hexadecimal d.second) (is_hexadecimal d.third && is_hexadecimal d.fourth) h in
    let q = and_parts (is_hexadecimal d.first) (is_hexadecimal d.second) p.0 in
    let r = and_parts (is_hexadecimal d.third) (is_hexadecimal d.fourth) p.1 in
    (digit-ascii _ q.0, digit-ascii _ q.1, digit-ascii _ r.0, digit-ascii _ r.1)

-- ---- several escapes

-- One more character in a run, and the meaning of what is left.
pub units-more : (text run new rest to : List ℕ) (end at c : ℕ) → IsUtf8 (take end run) → IsScalar c → take at new ≡ take end run ++ encode_utf8 c
    → meaning_of (chars text) ≡ text_in_front (chars (take end run)) (meaning_of rest) → meaning_of rest ≡ in_front c (meaning_of to)
    → IsUtf8 (take at new) × (meaning_of (chars text) ≡ text_in_front (chars (take at new)) (meaning_of to))
units-more text run new rest to end at c u s e m n = (
  rw e (IsUtf8-append _ _ u (IsUtf8-encode c s)),
  rw (m, n, chars-more (take end run) (take at new) c u s e, text_in_front-append) refl,
)
