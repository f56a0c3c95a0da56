-- The table of windows-1252: its characters are distinct, and the byte of a character is found with it.
use Rattle.std.proofs.Common.{◌≡◌, ℕ, ◌+◌, ◌-◌, ◌<◌, ◌≤◌, ◌==◌, ◌&&◌, ◌||◌, not, Bool, true, false, nat_lt, nat_le, slice_index, List, [], ◌∷◌, length, Option, Some, None, refl, sym, ap, ◌∙◌, inl, inr, arith, ltb-true, le-leb, leb-true, lt-ltb, eqb-true}
use Rattle.std.proofs.lemmas.Bool.{lt-leb, cond-true, cond-false, cases_Bool, and_parts, and_from, and_left, not-true, agree_below_at, or_cases}
use Rattle.std.proofs.lemmas.Option.{none-some, same_Some}
use Rattle.properties_format.specs.Text.{byte, scalar}
use Rattle.properties_format.specs.Windows1252.{windows_1252_table, is_in_table, windows_1252_character, place_from, windows_1252_byte}

abbrev is_some_of : Option ℕ → ℕ → Bool
is_some_of None k = false
is_some_of (Some x) k = x == k

-- What passes the test is that number.
same-some : (o : Option ℕ) (k : ℕ) → is_some_of o k ≡ true → o ≡ Some k
same-some o k h = grind (arith)

-- a byte's character has that byte
pub windows_1252_byte-character : (b : ℕ) → byte b → windows_1252_byte (windows_1252_character b) ≡ Some b
windows_1252_byte-character b h = same-some _ b (agree_below_at (λ k. is_some_of (windows_1252_byte (windows_1252_character k)) k) (λ k. true) 0x100 b refl h)

-- The character is found at the index that the search returns.
place-found : (n : ℕ) (xs : List ℕ) (c b : ℕ) → place_from n xs c ≡ Some b → (n ≤ b) × (b < n + length xs) × ((k : ℕ) → n + k ≡ b → slice_index xs k ≡ c)
place-found n [] c b h = absurd (none-some b h)
place-found n (x ∷ xs) c b h = elim (cases_Bool (x == c)) [
  | inl k ↦ grind (arith, same_Some, cond-true, eqb-true)
  | inr k ↦ grind (arith, place-found (n + 1) xs c b (sym (cond-false (x == c) (Some n) (place_from (n + 1) xs c) k) ∙ h), cond-false)
]
  where
    here : n ≡ b → x ≡ c → (k : ℕ) → n + k ≡ b → slice_index (x ∷ xs) k ≡ c
    here h m k p = grind (arith)

    there : n + 1 ≤ b → ((k : ℕ) → n + 1 + k ≡ b → slice_index xs k ≡ c) → (k : ℕ) → n + k ≡ b → slice_index (x ∷ xs) k ≡ c
    there h m k p = grind (arith)

-- The byte of a character has that character.
pub windows_1252_character-byte : (c b : ℕ) → windows_1252_byte c ≡ Some b → (windows_1252_character b ≡ c) × byte b
windows_1252_character-byte c b h = elim (cases_Bool (nat_lt c 0x100 && not (is_in_table c))) [
  | inl k ↦ grind (arith, and_parts, nat_lt, ltb-true, same_Some, cond-true, cond-false, not-true)
  | inr k ↦
      let f = place-found 0x80 windows_1252_table c b (sym (cond-false _ (Some c) _ k) ∙ h) in
      let low : 0x80 ≤ b = f.0 in
      let high : b < 0xa0 = f.1 in (
        cond-true (is_in_table b) _ b (and_from (nat_le 0x80 b) (nat_lt b 0xa0) (le-leb 0x80 b low) (lt-ltb b 0xa0 high)) ∙ f.2 (b - 0x80) (omega arith),
        omega arith,
      )
]

-- a byte's character is a scalar value
pub windows_1252-scalar : (b : ℕ) → byte b → scalar (windows_1252_character b)
windows_1252-scalar b h =
    inl (ltb-true (windows_1252_character b) 0xd800 (agree_below_at (λ k. nat_lt (windows_1252_character k) 0xd800) (λ k. true) 0x100 b refl h))

-- Only the byte with the same number has an ASCII character.
pub windows_1252-ascii : (b : ℕ) → windows_1252_character b < 0x80 → b ≡ windows_1252_character b
windows_1252-ascii b h = elim (cases_Bool (is_in_table b)) [
  | inl k ↦
      let l : b < 0xa0 = ltb-true b 0xa0 (and_parts (nat_le 0x80 b) (nat_lt b 0xa0) k).1 in
      let m : 0x80 ≤ b = leb-true 0x80 b (and_parts (nat_le 0x80 b) (nat_lt b 0xa0) k).0 in
      let t = agree_below_at (λ n. nat_lt n 0x80 || nat_le 0x80 (windows_1252_character n)) (λ n. true) 0x100 b refl (omega arith) in
      absurd (elim (or_cases (nat_lt b 0x80) (nat_le 0x80 (windows_1252_character b)) t) [
        | inl q ↦ let r = ltb-true b 0x80 q in omega arith
        | inr q ↦ let r = leb-true 0x80 (windows_1252_character b) q in omega arith
      ])
  | inr k ↦ sym (cond-false (is_in_table b) _ b k)
]

-- An ASCII byte is its own character.
pub windows_1252_character-ascii : (c : ℕ) → c < 0x80 → windows_1252_character c ≡ c
windows_1252_character-ascii c h = cond-false (is_in_table c) _ c (and_left (nat_le 0x80 c) (nat_lt c 0xa0) (lt-leb 0x80 c h))

-- An ASCII character is its own byte.
pub windows_1252_byte-ascii : (c : ℕ) → c < 0x80 → windows_1252_byte c ≡ Some c
windows_1252_byte-ascii c h = ap windows_1252_byte (sym (windows_1252_character-ascii c h)) ∙ windows_1252_byte-character c (omega arith)
