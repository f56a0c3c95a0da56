-- Units of two bytes, sixteen at a time.
use Rattle.std.specs.Prelude.{encode_utf8_all}
use Rattle.std.specs.Str.{chars, IsUtf8, all_scalars}
use Rattle.std.proofs.Common.{true, false, ◌≡◌, ℕ, zero, suc, ◌*◌, ◌<◌, ◌≤◌, ◌==◌, not, Bool, List, [], ◌∷◌, ◌++◌, refl, sym, ap, ap₂, subst, ◌∙◌, arith, length, length-append, take, drop, get_or, map, eqb-true}
use Rattle.std.specs.List.{AllByRecursion}
use Rattle.std.specs.Simd.Lanes.{pick_l}
use Rattle.std.proofs.lemmas.Bool.{not-false, lt-leb}
use Rattle.std.proofs.lemmas.Simd.{pick_l_whole}
use Rattle.byte_blocks.specs.Marks.{clear_front}
use Rattle.byte_blocks.proofs.Marking.{fails-before}
use Rattle.properties_format.specs.Encoding.{utf_16le, utf_16be}
use Rattle.properties_format.proofs.Encodings.Waiting.{characters-step}
use Rattle.properties_text.proofs.TextFronts.{decoded-more}
use Rattle.properties_text.specs.Encoding.{text_of, unit_of, evens, odds, lows_of, highs_of, utf_16_of}
use Rattle.properties_text.specs.declared.encoding.utf_16.ByteOrder.{ByteOrder}
use Rattle.properties_text.specs.declared.encoding.utf_16.ByteOrder.TheVariants.{LowFirst, HighFirst}

-- the units of some bytes
abbrev pub units_of : ByteOrder → List ℕ → List ℕ
units_of order [] = []
units_of order (a ∷ []) = []
units_of order (a ∷ b ∷ bytes) = unit_of order a b ∷ units_of order bytes

-- ---- their low bytes and their high bytes

-- the indices of the first bytes of units
abbrev even_places : List ℕ
even_places = 0 ∷ 2 ∷ 4 ∷ 6 ∷ 8 ∷ 10 ∷ 12 ∷ 14 ∷ 16 ∷ 18 ∷ 20 ∷ 22 ∷ 24 ∷ 26 ∷ 28 ∷ 30 ∷ []

-- the indices of their second bytes
abbrev odd_places : List ℕ
odd_places = 1 ∷ 3 ∷ 5 ∷ 7 ∷ 9 ∷ 11 ∷ 13 ∷ 15 ∷ 17 ∷ 19 ∷ 21 ∷ 23 ∷ 25 ∷ 27 ∷ 29 ∷ 31 ∷ []

-- What the lanes of two blocks at even indices pick, and those at odd indices.
pub evens-picked : (a b : List ℕ) → length a ≡ 16 → length b ≡ 16 → pick_l 0 (a ++ b) even_places ≡ evens (a ++ b)
evens-picked a b h k = ap evens (pick_l_whole 0 (a ++ b) 32 (omega (arith, length-append a b, h, k)))

pub odds-picked : (a b : List ℕ) → length a ≡ 16 → length b ≡ 16 → pick_l 0 (a ++ b) odd_places ≡ odds (a ++ b)
odds-picked a b h k = ap odds (pick_l_whole 0 (a ++ b) 32 (omega (arith, length-append a b, h, k)))

-- If the high bytes are zero, the low bytes are the units.
pub low-units : (order : ByteOrder) (v : List ℕ) (n : ℕ) → AllByRecursion (λ h. h < 1) (take n (highs_of order v))
    → take n (units_of order v) ≡ take n (lows_of order v)
low-units LowFirst (a ∷ b ∷ v) (suc n) h =
    let same : unit_of LowFirst a b ≡ a = omega (arith, h.0) in
    ap₂ (λ x xs. x ∷ xs) same (low-units LowFirst v n h.1)
low-units HighFirst (a ∷ b ∷ v) (suc n) h =
    let same : unit_of HighFirst a b ≡ b = omega (arith, h.0) in
    ap₂ (λ x xs. x ∷ xs) same (low-units HighFirst v n h.1)
low-units order v n h = refl

-- whether a byte isn't zero
abbrev pub is_some : ℕ → Bool
is_some b = not (b == 0)

-- A byte that is not marked is zero.
zero-byte : (b : ℕ) → is_some b ≡ false → b < 1
zero-byte b h = let e = eqb-true b 0 (not-false (b == 0) h) in omega (arith, e)

-- The first n are zero if none of them is marked.
first-zero : (v : List ℕ) (n : ℕ) → ((k : ℕ) → k < n → is_some (get_or v k 0) ≡ false) → AllByRecursion (λ b. b < 1) (take n v)
first-zero v zero h = tt
first-zero (b ∷ v) (suc n) h = (zero-byte b (h 0 (omega arith)), first-zero v n (λ k lt. h (suc k) (omega arith)))
first-zero v n h = tt

-- The first of small units are small.
small-taken : (n : ℕ) (v : List ℕ) → AllByRecursion (λ u. u < 0x100) v → AllByRecursion (λ u. u < 0x100) (take n v)
small-taken (suc n) (u ∷ v) h = (h.0, small-taken n v h.1)
small-taken n v h = tt

-- ---- what the units encode

-- A unit below 100 hexadecimal is a character.
unit-step : (order : ByteOrder) (a b : ℕ) (rest : List ℕ) → unit_of order a b < 0x100
    → text_of (utf_16_of order) (a ∷ b ∷ rest) ≡ unit_of order a b ∷ text_of (utf_16_of order) rest
unit-step LowFirst a b rest h = characters-step utf_16le a (b ∷ rest)
    ∙ rw (lt-leb 0xd800 (unit_of LowFirst a b) (omega arith), lt-leb 0xdc00 (unit_of LowFirst a b) (omega arith)) refl
unit-step HighFirst a b rest h = characters-step utf_16be a (b ∷ rest)
    ∙ rw (lt-leb 0xd800 (unit_of HighFirst a b) (omega arith), lt-leb 0xdc00 (unit_of HighFirst a b) (omega arith)) refl

-- n of the units of the first w bytes.
front-is : (order : ByteOrder) (n w : ℕ) (bytes : List ℕ) → 2 * n ≤ w → w ≤ length bytes
    → AllByRecursion (λ u. u < 0x100) (take n (units_of order (take w bytes)))
    → text_of (utf_16_of order) bytes ≡ take n (units_of order (take w bytes)) ++ text_of (utf_16_of order) (drop (2 * n) bytes)
front-is order zero w bytes le long h = refl
front-is order (suc n) (suc (suc w)) (a ∷ b ∷ bytes) le long h =
    let place : suc (suc (2 * n)) ≡ 2 * suc n = omega arith in
    rw (← place, unit-step order a b bytes h.0, front-is order n w bytes (omega arith) (omega arith) h.1) refl
front-is order (suc n) w bytes le long h = absurd (omega arith)

-- ---- the text that is written for them

-- The text of the first n units of some bytes, whose high bytes are zero, is appended to a text.
module _ (order : ByteOrder) (lows highs : List ℕ) (marks : List Bool) (n w : ℕ) (bytes : List ℕ)
    (lows_are : lows ≡ lows_of order (take w bytes)) (highs_are : highs ≡ highs_of order (take w bytes)) (marked : marks ≡ map is_some highs)
    (few : n ≤ clear_front marks) (within : 2 * n ≤ w) (long : w ≤ length bytes) (small : AllByRecursion (λ u. u < 0x100) lows) where
  -- The first units are their low bytes.
  first-same : take n (units_of order (take w bytes)) ≡ take n lows
  first-same =
      let zeros = first-zero highs n (fails-before is_some highs marks n marked few) in
      low-units order (take w bytes) n (subst (λ l. AllByRecursion (λ h. h < 1) (take n l)) highs_are zeros) ∙ ap (take n) (sym lows_are)

  -- Their characters come first.
  first-text : text_of (utf_16_of order) bytes ≡ take n lows ++ text_of (utf_16_of order) (drop (2 * n) bytes)
  first-text =
      front-is order n w bytes within long (subst (AllByRecursion (λ u. u < 0x100)) (sym first-same) (small-taken n lows small))
      ∙ ap (λ v. v ++ text_of (utf_16_of order) (drop (2 * n) bytes)) first-same

  -- They are appended.
  pub units-decoded : (old new all : List ℕ) → IsUtf8 old → all_scalars (take n lows) ≡ true → new ≡ old ++ encode_utf8_all (take n lows)
      → chars old ++ text_of (utf_16_of order) bytes ≡ all → IsUtf8 new × (chars new ++ text_of (utf_16_of order) (drop (2 * n) bytes) ≡ all)
  units-decoded old new all u scalars e joins = decoded-more old new (take n lows) _ _ all u scalars e first-text joins
