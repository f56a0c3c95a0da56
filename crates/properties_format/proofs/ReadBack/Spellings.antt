-- What is printed for a character is a spelling of that character.
use Rattle.std.proofs.Common.{rules, ◌≡◌, ◌⊎◌, ℕ, ◌<◌, ◌≤◌, ◌==◌, ◌||◌, true, false, List, [], ◌∷◌, ◌++◌, refl, sym, ◌∙◌, inl, inr, arith, eqb-true, ltb-true, ltb-false, subst, ap₂}
use Rattle.std.specs.Prelude.{nat_lt}
use Rattle.std.proofs.lemmas.Bool.{or_cases, or_parts, cond_both}
use Rattle.properties_format.specs.Text.{scalar, line_feed, carriage_return, space, backslash, is_blank, is_line_ending, is_comment_sign, is_separator}
use Rattle.properties_format.specs.Encoding.{Repertoire}
use Rattle.properties_format.specs.Escapes.{letter_u, escaped_character, are_hexadecimal, code_unit, is_high, is_low, is_surrogate, pair_character, Spelling, itself, escaped, unicode, surrogates, last, spelling_text, spelling_character, IsSpelling}
use Rattle.properties_format.specs.Printing.{in_key_or_value, in_comment, unit_escape, high_surrogate, low_surrogate, unicode_escape, may_be_unescaped, literal, is_special, letter_escape, has_letter, printed_character}
use Rattle.properties_format.proofs.Escapes.Digits.{unit_digits, unit_digits-hexadecimal, unit_digits-unit, high_surrogate-high, low_surrogate-low}
use Rattle.properties_format.proofs.Escapes.Trimmed.{KeepsBlanks, KeepsBlanks-itself, KeepsBlanks-escaped, KeepsBlanks-unicode, KeepsBlanks-surrogates}
use Rattle.properties_format.proofs.Printing.Characters.{may_be_unescaped-ascii, below-scalar, blank-ascii}

-- the spelling may be used in a key or a value
abbrev pub IsSafe : Spelling → Type 0
IsSafe (itself c) = ((c == backslash) ≡ false) × (is_blank c ≡ false) × (is_separator c ≡ false) × (is_comment_sign c ≡ false) × (is_line_ending c ≡ false)
IsSafe (escaped c) = ((c == letter_u) ≡ false) × (is_line_ending c ≡ false)
IsSafe (unicode d) = (are_hexadecimal d ≡ true) × (is_surrogate (code_unit d) ≡ false)
IsSafe (surrogates high low) = IsSpelling (surrogates high low) []
IsSafe last = ⊥

-- x is a safe spelling of c.
pub record IsSafelyPrinted (x : List ℕ) (c : ℕ) : Type 0 where
  pub spelling : Spelling
  pub text : x ≡ spelling_text spelling
  pub character : spelling_character spelling ≡ c
  pub safe : IsSafe spelling

-- x is a safe spelling of c, or c itself, which isn't a backslash or a line ending; and it keeps blanks.
pub record IsPlainlyPrinted (x : List ℕ) (c : ℕ) : Type 0 where
  pub spelling : Spelling
  pub text : x ≡ spelling_text spelling
  pub character : spelling_character spelling ≡ c
  pub safe : IsSafe spelling ⊎ ((spelling ≡ itself c) × ((c == backslash) ≡ false) × (is_line_ending c ≡ false))
  pub keeps : KeepsBlanks spelling

-- ---- `\u` escapes

-- A scalar value isn't a surrogate.
scalar-no_surrogate : (c : ℕ) → scalar c → is_surrogate c ≡ false
scalar-no_surrogate c h = grind (arith)

abbrev unit-printed : (c : ℕ) → scalar c → c < 0x1_0000 → IsSafelyPrinted (unit_escape c) c
unit-printed c h k =
    record {
      spelling = unicode (unit_digits c);
      text = refl;
      character = unit_digits-unit c k;
      safe = (unit_digits-hexadecimal c, subst (λ v. is_surrogate v ≡ false) (sym (unit_digits-unit c k)) (scalar-no_surrogate c h));
    }

-- One escape keeps blanks if it isn't that of a blank.
unit-keeps : (c : ℕ) → c < 0x1_0000 → is_blank c ≡ false → KeepsBlanks (unicode (unit_digits c))
unit-keeps c k b = KeepsBlanks-unicode (unit_digits c) (unit_digits-hexadecimal c) (subst (λ v. is_blank v ≡ false) (sym (unit_digits-unit c k)) b)

-- The value of the first four digits is the high surrogate.
high-unit : (c : ℕ) → c < 0x11_0000 → code_unit (unit_digits (high_surrogate c)) ≡ high_surrogate c
high-unit c h = unit_digits-unit (high_surrogate c) (omega arith)

-- The value of the second four digits is the low surrogate.
low-unit : (c : ℕ) → code_unit (unit_digits (low_surrogate c)) ≡ low_surrogate c
low-unit c = unit_digits-unit (low_surrogate c) (omega arith)

-- The two together are the character.
pair-is : (c : ℕ) → scalar c → 0x1_0000 ≤ c → pair_character (code_unit (unit_digits (high_surrogate c))) (code_unit (unit_digits (low_surrogate c))) ≡ c
pair-is c h k = ap₂ pair_character (high-unit c (below-scalar c h)) (low-unit c) ∙ omega arith

abbrev pair-printed : (c : ℕ) → scalar c → 0x1_0000 ≤ c → IsSafelyPrinted (unit_escape (high_surrogate c) ++ unit_escape (low_surrogate c)) c
pair-printed c h k =
    record {
      spelling = surrogates (unit_digits (high_surrogate c)) (unit_digits (low_surrogate c));
      text = refl;
      character = pair-is c h k;
      safe = (
        unit_digits-hexadecimal (high_surrogate c),
        subst (λ v. is_high v ≡ true) (sym (high-unit c (below-scalar c h))) (high_surrogate-high c (below-scalar c h)),
        unit_digits-hexadecimal (low_surrogate c),
        subst (λ v. is_low v ≡ true) (sym (low-unit c)) (low_surrogate-low c),
      );
    }

-- `\u` escapes are a safe spelling of a scalar value.
pub unicode-printed : (c : ℕ) → scalar c → IsSafelyPrinted (unicode_escape c) c
unicode-printed c h =
    cond_both (nat_lt c 0x1_0000) (unit_escape c) (unit_escape (high_surrogate c) ++ unit_escape (low_surrogate c)) (λ x. IsSafelyPrinted x c)
    (λ k. unit-printed c h (ltb-true c 0x1_0000 k)) (λ k. pair-printed c h (ltb-false c 0x1_0000 k))

-- `\u` escapes are a plain spelling of a scalar value that isn't a blank.
pub unicode-plainly : (c : ℕ) → scalar c → is_blank c ≡ false → IsPlainlyPrinted (unicode_escape c) c
unicode-plainly c h b =
    cond_both (nat_lt c 0x1_0000) (unit_escape c) (unit_escape (high_surrogate c) ++ unit_escape (low_surrogate c)) (λ x. IsPlainlyPrinted x c)
    (λ k. let s = unit-printed c h (ltb-true c 0x1_0000 k) in
    record { spelling = unicode (unit_digits c); text = refl; character = s.character; safe = inl s.safe; keeps = unit-keeps c (ltb-true c 0x1_0000 k) b })
    (λ k. let s = pair-printed c h (ltb-false c 0x1_0000 k) in
    record {
      spelling = surrogates (unit_digits (high_surrogate c)) (unit_digits (low_surrogate c));
      text = refl;
      character = s.character;
      safe = inl s.safe;
      keeps = search (rules, KeepsBlanks-surrogates, unit_digits-hexadecimal, pair-is);
    })

-- ---- unescaped characters, and escapes of a backslash and one character

-- A backslash and a character that isn't u or a line ending are a safe spelling of what they mean.
escape-printed : (c d : ℕ) → (d == letter_u) ≡ false → is_line_ending d ≡ false → escaped_character d ≡ c → IsSafelyPrinted (backslash ∷ d ∷ []) c
escape-printed c d u l e = record { spelling = escaped d; text = refl; character = e; safe = (u, l) }

-- A backslash and a special character are a safe spelling of that character.
pub special-printed : (c : ℕ) → is_special c ≡ true → IsSafelyPrinted (backslash ∷ c ∷ []) c
special-printed c h = escape-printed c c (grind (arith)) (grind (arith)) (grind (arith))

-- ---- keys and values

-- The character has no escape of its own in a key.
record IsOrdinary (c : ℕ) : Type 0 where
  special : is_special c ≡ false
  letter : has_letter c ≡ false

-- Such a character is a safe spelling of itself.
itself-printed : (c : ℕ) → IsOrdinary c → IsSafelyPrinted (c ∷ []) c
itself-printed c o =
    let a = o.special in
    let b = o.letter in
    let plain : is_line_ending c ≡ false = grind (arith) in
    let d = or_parts (c == backslash) (c == space || (is_separator c || is_comment_sign c)) a in
    record {
      spelling = itself c;
      text = refl;
      character = refl;
      safe = (d.0, grind (arith), grind (arith), grind (arith), plain);
    }

-- Unescaped if that is allowed, otherwise escaped, such a character is safely spelt.
literal-printed : (r : Repertoire) (c : ℕ) → scalar c → IsOrdinary c → IsSafelyPrinted (literal r c) c
literal-printed r c h o = cond_both _ (c ∷ []) _ (λ x. IsSafelyPrinted x c) (λ k. itself-printed c o) (λ k. unicode-printed c h)

-- What is printed for a character in a key or a value is a safe spelling of it.
pub in_key_or_value-printed : (r : Repertoire) (c : ℕ) → scalar c → IsSafelyPrinted (printed_character r in_key_or_value c) c
in_key_or_value-printed r c h =
    cond_both (is_special c) (backslash ∷ c ∷ []) _ (λ x. IsSafelyPrinted x c) (special-printed c) (λ k.
    cond_both (has_letter c) (letter_escape c) _ (λ x. IsSafelyPrinted x c) (search (rules, escape-printed)) (λ l.
    cond_both (nat_lt c space) (unicode_escape c) (literal r c) (λ x. IsSafelyPrinted x c) (λ m. unicode-printed c h)
    (λ m. literal-printed r c h (record { special = k; letter = l }))))

-- ---- comments and prefixes

-- A backslash and a character are a plain spelling, if neither that character nor the one they mean is a blank.
escape-plainly : (c d : ℕ) → (d == letter_u) ≡ false → is_line_ending d ≡ false → escaped_character d ≡ c → is_blank d ≡ false
    → is_blank (escaped_character d) ≡ false → IsPlainlyPrinted (backslash ∷ d ∷ []) c
escape-plainly c d u l e b f = record { spelling = escaped d; text = refl; character = e; safe = inl (u, l); keeps = KeepsBlanks-escaped d b f }

-- What plainly spells one character plainly spells an equal one.
at-character_plainly : (c d : ℕ) (x : ℕ → List ℕ) → (c == d) ≡ true → IsPlainlyPrinted (x d) d → IsPlainlyPrinted (x c) c
at-character_plainly c d x e s = rw (eqb-true c d e) s

-- Unescaped if that is allowed, otherwise escaped, a character that isn't a backslash or a line ending is plainly
-- spelt.
pub literal-plainly : (r : Repertoire) (c : ℕ) → scalar c → (c == backslash) ≡ false → is_line_ending c ≡ false → IsPlainlyPrinted (literal r c) c
literal-plainly r c h b l =
    cond_both (may_be_unescaped r c) (c ∷ []) (unicode_escape c) (λ x. IsPlainlyPrinted x c)
    (λ k. record { spelling = itself c; text = refl; character = refl; safe = inr (refl, b, l); keeps = KeepsBlanks-itself c })
    (λ k. unicode-plainly c h (search (rules, may_be_unescaped-ascii, blank-ascii)))

-- What is printed for a character in a comment is a plain spelling of it.
pub in_comment-printed : (r : Repertoire) (c : ℕ) → scalar c → IsPlainlyPrinted (printed_character r in_comment c) c
in_comment-printed r c h =
    cond_both (c == backslash) (backslash ∷ backslash ∷ []) _ (λ x. IsPlainlyPrinted x c)
    (λ k. at-character_plainly c backslash (λ v. backslash ∷ backslash ∷ []) k (escape-plainly backslash backslash refl refl refl refl refl)) (λ k.
    cond_both (c == line_feed || c == carriage_return) (letter_escape c) (literal r c) (λ x. IsPlainlyPrinted x c)
    (λ l. elim (or_cases (c == line_feed) (c == carriage_return) l) [
      | inl m ↦ at-character_plainly c line_feed letter_escape m (escape-plainly line_feed 0x6e refl refl refl refl refl)
      | inr m ↦ at-character_plainly c carriage_return letter_escape m (escape-plainly carriage_return 0x72 refl refl refl refl refl)
    ])
    (λ l. literal-plainly r c h k l))
