-- What a comparison of sixteen bytes with others says about each byte.
use Rattle.std.proofs.Common.{◌≡◌, ◌<◌, ◌≤◌, ◌+◌, ◌-◌, ◌%◌, ◌^◌, ◌&&◌, ℕ, Bool, true, false, cond, eqb, leb, ltb, nat_le, inl, inr, List, [], ◌∷◌, length, get_or, map, replicate, bit_and, w8, Fits, refl, sym, ap, ap₂, ◌∙◌, arith}
use Rattle.std.specs.Simd.Lanes.{zip2, mask_l, top, pick_l, Each1}
use Rattle.std.proofs.lemmas.Bool.{agree_below, agree_below_at, and_left, and_right, cases_lt, le-leb, lt-leb}
use Rattle.std.proofs.lemmas.List.{length-map, map-id, ext_get_or, get_or-map}
use Rattle.std.proofs.lemmas.Nat.{and_mask, and_le_r}
use Rattle.std.proofs.lemmas.Simd.{bitmask_splat, tops_compared, mask_l-mod, zip2_splat, zip2_splat_left, zip2_of_maps, splat_is_map, length-zip2, map-map, swz_l, SwzOk, SwzOk-from_below, Each1-get_or, Each1-all, Each1-zip2, Each2-splat, length-swz_l, get_or-swz_l_below}
use Rattle.byte_blocks.specs.Marks.{lowest_bits}
use Rattle.byte_blocks.specs.Classes.{matches_table}

-- Two tests that agree on every byte give the same marks.
pub each-same : (p q : ℕ → Bool) (block : List ℕ) → ((b : ℕ) → b < 256 → p b ≡ q b) → Each1 (Fits w8) block → map p block ≡ map q block
each-same p q [] same fits = refl
each-same p q (b ∷ block) same fits = ap₂ (λ x xs. x ∷ xs) (same b fits.0.fits) (each-same p q block same fits.1)

-- ---- with one byte

pub equal-bits : (y : ℕ) (block : List ℕ) → length block ≡ 16
    → mask_l (map (top 7) (zip2 (λ a b. cond (eqb a b) 255 0) block (replicate 16 y))) % 2 ^ 64 ≡ mask_l (map (λ b. eqb b y) block)
equal-bits y block long = bitmask_splat w8 eqb block 16 y long (omega arith)

pub below-bits : (y : ℕ) (block : List ℕ) → length block ≡ 16
    → mask_l (map (top 7) (zip2 (λ a b. cond (ltb a b) 255 0) block (replicate 16 y))) % 2 ^ 64 ≡ mask_l (map (λ b. ltb b y) block)
below-bits y block long = bitmask_splat w8 ltb block 16 y long (omega arith)

pub at_least-bits : (y : ℕ) (block : List ℕ) → length block ≡ 16
    → mask_l (map (top 7) (zip2 (λ a b. cond (leb a b) 255 0) (replicate 16 y) block)) % 2 ^ 64 ≡ mask_l (map (leb y) block)
at_least-bits y block long =
    ap (λ l. mask_l l % 2 ^ 64) (tops_compared w8 leb (replicate 16 y) block ∙ zip2_splat_left leb y 16 block long)
    ∙ mask_l-mod (map (leb y) block) 64 (omega (arith, length-map block (leb y), long))

-- ---- with the first and the last byte of a range

-- A byte below the first wraps around and becomes greater than the last.
within-at : (first last b : ℕ) → first ≤ last → last < 256 → b < 256 → leb ((b + (256 - first)) % 256) (last - first) ≡ (nat_le first b && nat_le b last)
within-at first last b le small fits = elim (cases_lt b first) [
  | inl low ↦
      lt-leb ((b + (256 - first)) % 256) (last - first) (omega arith) ∙ sym (and_left (nat_le first b) (nat_le b last) (lt-leb first b low))
  | inr high ↦
      let from : (b + (256 - first)) % 256 ≡ b - first = omega arith in
      ap (λ n. leb n (last - first)) from ∙ above b high ∙ ap (λ t. t && nat_le b last) (sym (le-leb first b high))
]
  where
    above : (b : ℕ) → first ≤ b → leb (b - first) (last - first) ≡ nat_le b last
    above b high = elim (cases_lt last b) [
      | inl past ↦ lt-leb (b - first) (last - first) (omega arith) ∙ sym (lt-leb b last past)
      | inr up_to ↦ le-leb (b - first) (last - first) (omega arith) ∙ sym (le-leb b last up_to)
    ]

pub within-bits : (first last : ℕ) (block : List ℕ) → first ≤ last → last < 256 → length block ≡ 16 → Each1 (Fits w8) block
    → mask_l (map (top 7) (zip2 (λ a b. cond (leb a b) 255 0) (zip2 (λ a b. (a + (256 - b)) % 256) block (replicate 16 first)) (replicate 16 (last - first)))) % 2 ^ 64
    ≡ mask_l (map (λ b. nat_le first b && nat_le b last) block)
within-bits first last block le small long fits =
    let moved = λ (b : ℕ). (b + (256 - first)) % 256 in
    let test = λ (b : ℕ). nat_le first b && nat_le b last in
    ap (λ l. mask_l l % 2 ^ 64)
    (tops_compared w8 leb (zip2 (λ a b. (a + (256 - b)) % 256) block (replicate 16 first)) (replicate 16 (last - first))
    ∙ zip2_of_maps leb moved (λ b. last - first) block (zip2_splat (λ a b. (a + (256 - b)) % 256) block 16 first long) (splat_is_map block 16 (last - first) long)
    ∙ each-same (λ b. leb (moved b) (last - first)) test block (λ b fits. within-at first last b le small fits) fits)
    ∙ mask_l-mod (map test block) 64 (omega (arith, length-map block test, long))

-- If the last comes before the first, no byte is in the range.
pub none-within : (first last : ℕ) (block : List ℕ) → last < first → length block ≡ 16 → Each1 (Fits w8) block
    → lowest_bits 16 0 ≡ map (λ b. nat_le first b && nat_le b last) block
unfolding lowest_bits
none-within first last block before long fits =
    splat_is_map block 16 false long ∙ each-same (λ b. false) (λ b. nat_le first b && nat_le b last) block (λ b small. sym (none b)) fits
  where
    none : (b : ℕ) → (nat_le first b && nat_le b last) ≡ false
    none b = elim (cases_lt b first) [
      | inl low ↦ and_left (nat_le first b) (nat_le b last) (lt-leb first b low)
      | inr high ↦ and_right (nat_le first b) (nat_le b last) (lt-leb b last (omega arith))
    ]

-- ---- with the bytes of a table

-- the low four bits of each byte
abbrev low : List ℕ → List ℕ
low block = zip2 bit_and block (replicate 16 15)

low-each : (block : List ℕ) → Each1 (λ j. j < 16) (low block)
low-each block = Each1-zip2 bit_and (λ j. j < 16) block (replicate 16 15)
    (Each2-splat (λ a b. bit_and a b < 16) block 16 15
    (Each1-all (λ a. bit_and a 15 < 16) (λ a. omega (arith, and_le_r a 15)) block))

pub low-below : (block : List ℕ) → length block ≡ 16 → SwzOk w8 16 16 0 (low block)
low-below block long = SwzOk-from_below w8 16 1 16 0 (low block) refl (omega (arith, length-zip2 bit_and block (replicate 16 15) long)) (low-each block)

-- Lanes below 16 pick their bytes from a vector of 16.
pub swizzled : (xs lanes : List ℕ) → length lanes ≤ 16 → Each1 (λ j. j < 16) lanes → swz_l w8 16 xs 0 lanes ≡ pick_l 0 xs lanes
swizzled xs lanes le below =
    ext_get_or 0 (swz_l w8 16 xs 0 lanes) (pick_l 0 xs lanes) (length-swz_l w8 16 xs 0 lanes ∙ sym (length-map lanes (λ k. get_or xs k 0))) (λ m lt.
    let within : m < length lanes = omega (arith, length-swz_l w8 16 xs 0 lanes) in
    let small = Each1-get_or (λ j. j < 16) lanes m 0 within below in
    get_or-swz_l_below w8 16 xs 0 lanes m within small
    ∙ ap (λ n. get_or xs n 0) (omega arith)
    ∙ sym (get_or-map (λ k. get_or xs k 0) lanes m 0 0 within))

pub table-bits : (table block : List ℕ) → length block ≡ 16
    → mask_l (map (top 7) (zip2 (λ a b. cond (eqb a b) 255 0) block (swz_l w8 16 table 0 (low block)))) % 2 ^ 64 ≡ mask_l (map (matches_table table) block)
table-bits table block long =
    let near = λ (b : ℕ). get_or table (b % 16) 0 in
    let nibbles : low block ≡ map (λ b. b % 16) block = zip2_splat bit_and block 16 15 long ∙ masked block in
    let found : swz_l w8 16 table 0 (low block) ≡ map near block =
    swizzled table (low block) (omega (arith, length-zip2 bit_and block (replicate 16 15) long)) (low-each block)
    ∙ ap (map (λ k. get_or table k 0)) nibbles ∙ map-map (λ k. get_or table k 0) (λ b. b % 16) block in
    ap (λ l. mask_l l % 2 ^ 64)
    (tops_compared w8 eqb block (swz_l w8 16 table 0 (low block))
    ∙ zip2_of_maps eqb (λ b. b) near block (sym (map-id block)) found)
    ∙ mask_l-mod (map (matches_table table) block) 64 (omega (arith, length-map block (matches_table table), long))
  where
    masked : (block : List ℕ) → map (λ b. bit_and b 15) block ≡ map (λ b. b % 16) block
    masked [] = refl
    masked (b ∷ block) = ap₂ (λ x xs. x ∷ xs) (and_mask b 4) (masked block)

-- A table is that of a class if both have the same bytes.
pub table-is : (table : List ℕ) (class : ℕ → Bool) (block : List ℕ) → agree_below (matches_table table) class 256 ≡ true → Each1 (Fits w8) block
    → map (matches_table table) block ≡ map class block
table-is table class block same fits = each-same (matches_table table) class block (λ b small. agree_below_at (matches_table table) class 256 b same small) fits
