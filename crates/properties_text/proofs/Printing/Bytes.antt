-- Texts printed byte by byte.
use Rattle.std.proofs.Common.{◌≡◌, ℕ, ◌+◌, ◌<◌, ◌≤◌, ◌==◌, true, false, nat_lt, List, [], ◌∷◌, ◌++◌, refl, sym, ap, ◌∙◌, inl, inr, append_assoc, arith, lit<, le-ltb, ne_eqb, eqb-true}
use Rattle.std.specs.Prelude.{Some, not, ◌&&◌, slice_index, unwrap_or}
use Rattle.std.proofs.lemmas.Bool.{cases_Bool, cases_lt, agree_below_at, false_from_ne_true}
use Rattle.std.proofs.lemmas.Bool.Decides.{nat_tests}
use Rattle.properties_format.specs.Text.{space, backslash}
use Rattle.properties_format.specs.Windows1252.{windows_1252_byte, windows_1252_table, is_in_table, place_from}
use Rattle.properties_format.specs.Encoding.{windows_1252, one_byte, encoded, Repertoire, all_of}
use Rattle.properties_format.specs.Printing.{in_key_or_value, unit_escape, unicode_escape, may_be_unescaped, is_special, has_letter, letter_escape, printed_character, encoded_text}
use Rattle.properties_format.proofs.Printing.Characters.{encoded_text-ascii, encoded-ascii, special-ascii, letter_escape-ascii}
use Rattle.properties_text.specs.Printing.{printed_byte, printed_bytes, backslashes_before, last_of}
use Rattle.properties_text.specs.declared.print.bytes.TheConstants.{BEFORE, LAST}
use Rattle.properties_format.proofs.ReadBack.Comments.{literal-ascii}
use Rattle.properties_text.proofs.Printing.Characters.{encoded_escape}

-- ---- bytes, one after another

pub printed_bytes-append : (x y : List ℕ) → printed_bytes (x ++ y) ≡ printed_bytes x ++ printed_bytes y
printed_bytes-append [] y = refl
printed_bytes-append (b ∷ x) y = rw (printed_bytes-append x y, append_assoc) refl

-- ---- the tables

pub before_at : (b : ℕ) → b < 256 → slice_index BEFORE b ≡ backslashes_before b
before_at b h = eqb-true _ _ (agree_below_at (λ b. slice_index BEFORE b == backslashes_before b) (λ k. true) 256 b refl h)

pub last_at : (b : ℕ) → b < 256 → slice_index LAST b ≡ last_of b
last_at b h = eqb-true _ _ (agree_below_at (λ b. slice_index LAST b == last_of b) (λ k. true) 256 b refl h)

-- A byte that neither table has is printed as an escape of digits.
pub printed_digits : (b : ℕ) → 1 < backslashes_before b → printed_byte b ≡ unit_escape b
printed_digits b h = grind (arith, nat_tests)

-- ---- ASCII

-- An ASCII character is printed as its byte is.
pub ascii-printed : (r : Repertoire) (c : ℕ) → c < 0x80 → encoded_text r.encoding (printed_character r in_key_or_value c) ≡ printed_byte c
ascii-printed r c h = elim (cases_Bool (is_special c)) [
  | inl s ↦ rw s (encoded_text-ascii r.encoding (backslash ∷ c ∷ []) (lit< tt, (h, tt)))
  | inr s ↦ elim (cases_Bool (has_letter c)) [
    | inl l ↦ rw (s, l) (encoded_text-ascii r.encoding (letter_escape c) (letter_escape-ascii c))
    | inr l ↦ elim (cases_Bool (nat_lt c space)) [
      | inl k ↦ rw (s, l, k) (encoded_escape r.encoding c)
      | inr k ↦ rw (s, l, k) (rw (literal-ascii r c h) (ap (λ o. unwrap_or o [] ++ []) (encoded-ascii r.encoding c h)))
    ]
  ]
]

-- ---- UTF-8

pub past-special : (b : ℕ) → 0x80 ≤ b → is_special b ≡ false
past-special b h = false_from_ne_true (is_special b) (λ t. absurd (omega (arith, special-ascii b t)))

pub past-letter : (b : ℕ) → 0x80 ≤ b → has_letter b ≡ false
past-letter b h = rw (ne_eqb b 0x09 (omega arith), ne_eqb b 0x0a (omega arith), ne_eqb b 0x0c (omega arith), ne_eqb b 0x0d (omega arith)) refl

pub past-control : (b : ℕ) → 0x80 ≤ b → nat_lt b space ≡ false
past-control b h = le-ltb b space (omega arith)

-- A non-ASCII byte is copied.
pub past-byte : (b : ℕ) → 0x80 ≤ b → printed_byte b ≡ b ∷ []
past-byte b h = rw (past-special b h, past-letter b h, past-control b h) refl

-- ---- windows-1252

place-past : (n : ℕ) (xs : List ℕ) (c b : ℕ) → place_from n xs c ≡ Some b → n ≤ b
place-past n [] c b h = absurd (cc)
place-past n (x ∷ xs) c b h = elim (cases_Bool (x == c)) [
  | inl e ↦ let same : Some n ≡ Some b = rw e at h in let is : n ≡ b = cc in omega arith
  | inr e ↦ let more = place-past (n + 1) xs c b (rw e at h) in omega arith
]

-- The windows-1252 byte of a non-ASCII character is non-ASCII.
pub byte-past : (c b : ℕ) → 0x80 ≤ c → windows_1252_byte c ≡ Some b → 0x80 ≤ b
byte-past c b h e = elim (cases_Bool (nat_lt c 0x100 && not (is_in_table c))) [
  | inl k ↦ let same : Some c ≡ Some b = rw k at e in let is : c ≡ b = cc in omega arith
  | inr k ↦ place-past 0x80 windows_1252_table c b (rw k at e)
]

-- A character that has a byte is printed as that byte is.
pub byte-printed : (c b : ℕ) → windows_1252_byte c ≡ Some b → encoded_text windows_1252 (printed_character (all_of windows_1252) in_key_or_value
    c) ≡ printed_byte b
byte-printed c b e = elim (cases_lt c 0x80) [
  | inl h ↦
      let own : Some (b ∷ []) ≡ Some (c ∷ []) = sym (ap one_byte e) ∙ encoded-ascii windows_1252 c h in
      let same : b ≡ c = cc in
      ascii-printed (all_of windows_1252) c h ∙ ap printed_byte (sym same)
  | inr h ↦
      let known : encoded windows_1252 c ≡ Some (b ∷ []) = ap one_byte e in
      rw (past-special c h, past-letter c h, past-control c h, known) (rw known (sym (past-byte b (byte-past c b h e))))
]

-- A non-ASCII character that may not be printed as it is, is escaped.
pub escaped-printed : (r : Repertoire) (c : ℕ) → 0x80 ≤ c → may_be_unescaped r c ≡ false
    → encoded_text r.encoding (printed_character r in_key_or_value c) ≡ unicode_escape c
escaped-printed r c h lacks = rw (past-special c h, past-letter c h, past-control c h, lacks) (encoded_escape r.encoding c)
