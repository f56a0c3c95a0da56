-- Escapes at the front of a text.
use Rattle.std.proofs.Common.{◌≡◌, ℕ, ◌<◌, ◌≤◌, true, false, List, ◌++◌, length, refl, ap, ◌≢◌, sym, ◌∙◌, subst, inl, inr, arith}
use Rattle.std.specs.Prelude.{None}
use Rattle.std.proofs.lemmas.Bool.{cases_Bool, ne_eqb}
use Rattle.std.proofs.lemmas.Bool.Decides.{nat_tests}
use Rattle.std.specs.Char.{InScalarRange, OutOfScalarRange}
use Rattle.properties_format.specs.Escapes.{Four, four_text, are_hexadecimal, code_unit, is_high, is_low, is_surrogate, escaped_character, not_hex, invalid_character}
use Rattle.properties_format.specs.Computed.Escapes.{with_low}
use Rattle.properties_format.proofs.Escapes.Laws.{IsMalformedUnit, malformed-short, malformed-not_hex, malformed-lone_low, malformed-lone_high}
use Rattle.properties_format.proofs.Escapes.Scalars.{code_unit-below}
use Rattle.properties_text.specs.Escaping.{malformed_in}
use Rattle.properties_text.specs.declared.escape.Malformed.{Malformed}
use Rattle.properties_text.specs.declared.escape.Malformed.TheVariants.{NotEnoughDigits, NotHex, InvalidCharacter}

-- ---- four digits

-- The text is four hexadecimal digits with this value, and a rest.
pub record IsUnit (text : List ℕ) (value : ℕ) (rest : List ℕ) : Type 0 where
  pub digits : Four
  pub whole : text ≡ four_text digits ++ rest
  pub hexadecimal : are_hexadecimal digits ≡ true
  pub writes : value ≡ code_unit digits

-- The text begins with four characters that aren't all hexadecimal digits.
pub record LacksDigit (text : List ℕ) : Type 0 where
  pub four : Four
  pub rest : List ℕ
  pub whole : text ≡ four_text four ++ rest
  pub not_hexadecimal : are_hexadecimal four ≡ false

-- Why a text doesn't begin with four digits.
abbrev pub IsUnread : List ℕ → Malformed → Type 0
IsUnread text NotEnoughDigits = length text < 4
IsUnread text NotHex = LacksDigit text
IsUnread text InvalidCharacter = ⊥

-- ---- units of surrogates

high-or-low : (value : ℕ) → 0xd800 ≤ value → value < 0xe000 → is_high value ≡ false → is_low value ≡ true
high-or-low value l h k = grind (arith, nat_tests)

-- A surrogate without its other half.
pub malformed-unpaired : (text rest : List ℕ) (value : ℕ) → IsUnit text value rest → 0xd800 ≤ value → value < 0xe000
    → (is_high value ≡ true → (d : Four) → with_low d rest ≡ None) → IsMalformedUnit text invalid_character
malformed-unpaired text rest value u l h k = subst (λ v. IsMalformedUnit v invalid_character) (sym u.whole) (elim (cases_Bool (is_high value)) [
  | inl e ↦ malformed-lone_high u.digits rest u.hexadecimal (sym (ap is_high u.writes) ∙ e) (k e u.digits)
  | inr e ↦ malformed-lone_low u.digits rest u.hexadecimal (sym (ap is_high u.writes) ∙ e) (sym (ap is_low u.writes) ∙ high-or-low value l h e)
])

-- A unit that is a scalar value isn't a surrogate.
pub scalar-unit : (value : ℕ) → InScalarRange value → is_surrogate value ≡ false
scalar-unit value (inl h) = grind (arith, nat_tests)
scalar-unit value (inr h) = grind (arith, nat_tests)

-- Any other unit is a surrogate.
pub surrogate-unit : (text rest : List ℕ) (value : ℕ) → IsUnit text value rest → OutOfScalarRange value → (0xd800 ≤ value) × (value < 0xe000)
surrogate-unit text rest value u (inl h) = (h.0, omega arith)
surrogate-unit text rest value u (inr h) = absurd (omega (arith, u.writes, code_unit-below u.digits u.hexadecimal))

-- ---- escapes of one character

pub other-character : (c : ℕ) → c ≢ 0x74 → c ≢ 0x6e → c ≢ 0x66 → c ≢ 0x72 → escaped_character c ≡ c
other-character c t n f r = rw (ne_eqb c 0x74 t, ne_eqb c 0x6e n, ne_eqb c 0x66 f, ne_eqb c 0x72 r) refl

-- ---- units that were not read

pub malformed-unread : (text : List ℕ) (malformed : Malformed) → IsUnread text malformed → IsMalformedUnit text (malformed_in malformed)
malformed-unread text NotEnoughDigits h = malformed-short text h
malformed-unread text NotHex h = subst (λ v. IsMalformedUnit v not_hex) (sym h.whole) (malformed-not_hex h.four h.rest h.not_hexadecimal)
malformed-unread text InvalidCharacter h = absurd h
