-- Rows of lanes, what they pick from a block, and the bits that select a row.
use Rattle.std.proofs.Common.{◌≡◌, ℕ, zero, suc, ◌+◌, ◌*◌, ◌/◌, ◌%◌, ◌^◌, ◌<◌, ◌≤◌, Bool, true, false, ◌&&◌, ltb, eqb, List, [], ◌∷◌, ◌++◌, refl, sym, ap, ap₂, subst, ◌∙◌, arith, length, take, drop, get_or, map, w8}
use Rattle.std.specs.Int.RustNames.{count_ones}
use Rattle.std.specs.Simd.Lanes.{Each1, pick_l, put_chunk, mask_l, all_below}
use Rattle.std.proofs.lemmas.Bool.{and_parts, eqb-true, ltb-true}
use Rattle.std.proofs.lemmas.List.{length-append, length-map, length-take, length-take-le, take-take, take-map, take-append-drop}
use Rattle.std.proofs.lemmas.Nat.{pow_pos, one_shl, ones-le}
use Rattle.std.proofs.lemmas.Simd.{swz_l, SwzOk, SwzOk-from_below, length-swz_l, mask_l-lt, take_more_put_chunk}
use native.Mathlib.Nat.{pow-succ', mul_assoc, mod-lt, mod-eq_of_lt, add-mul-mod_self_left}
use Rattle.byte_blocks.specs.Marks.{lowest_bits}
use Rattle.byte_blocks.proofs.Marking.{bits-of_mask}
use Rattle.byte_blocks.proofs.Comparing.{swizzled}

-- ---- a row

-- whether the second list begins with the first
abbrev pub starts : List ℕ → List ℕ → Bool
starts [] ys = true
starts (x ∷ xs) [] = false
starts (x ∷ xs) (y ∷ ys) = eqb x y && starts xs ys

-- If so, its front is the first list.
pub starts-take : (xs ys : List ℕ) → starts xs ys ≡ true → take (length xs) ys ≡ xs
starts-take [] ys h = refl
starts-take (x ∷ xs) [] h = absurd (cc)
starts-take (x ∷ xs) (y ∷ ys) h =
    let both = and_parts (eqb x y) (starts xs ys) h in
    ap₂ (λ z zs. z ∷ zs) (sym (eqb-true x y both.0)) (starts-take xs ys both.1)

-- If the test of all lanes passes, each lane passes.
each_below : (n : ℕ) (ks : List ℕ) → all_below n ks ≡ true → Each1 (λ k. k < n) ks
each_below n [] h = tt
each_below n (k ∷ ks) h =
    let both = and_parts (ltb k n) (all_below n ks) h in
    (ltb-true k n both.0, each_below n ks both.1)

-- whether a row of sixteen begins with these lanes
abbrev pub is_row : List ℕ → List ℕ → Bool
is_row lanes row = starts lanes row && (all_below 16 row && eqb (length row) 16)

-- the meaning of that test
pub record IsRow (lanes row : List ℕ) : Type 0 where
  pub front : take (length lanes) row ≡ lanes
  pub below : Each1 (λ k. k < 16) row
  pub long : length row ≡ 16

-- The test implies it.
pub row-from_test : (lanes row : List ℕ) → is_row lanes row ≡ true → IsRow lanes row
row-from_test lanes row h =
    let first = and_parts (starts lanes row) (all_below 16 row && eqb (length row) 16) h in
    let more = and_parts (all_below 16 row) (eqb (length row) 16) first.1 in
    record { front = starts-take lanes row first.0; below = each_below 16 row more.0; long = eqb-true (length row) 16 more.1 }

-- a block can be swizzled by a row
pub row-below : (lanes row : List ℕ) → IsRow lanes row → SwzOk w8 16 16 0 row
row-below lanes row held = SwzOk-from_below w8 16 1 16 0 row refl (omega (arith, held.long)) held.below

-- The result is as long as a block.
pub swizzled-long : (block lanes row : List ℕ) → IsRow lanes row → length (swz_l w8 16 block 0 row) ≡ 16
swizzled-long block lanes row held = length-swz_l w8 16 block 0 row ∙ held.long

-- The result begins with what the row's first lanes pick.
pub row-picks : (block lanes row whole : List ℕ) → IsRow lanes row → pick_l 0 block lanes ≡ whole
    → (length whole ≤ 16) × (take (length whole) (swz_l w8 16 block 0 row) ≡ whole)
row-picks block lanes row whole held is =
    let n = length lanes in
    let size : n ≡ length whole = sym (length-map lanes (λ j. get_or block j 0)) ∙ ap length is in (
      omega (arith, size, ap length held.front, length-take n row, held.long),
      ap (take (length whole)) (swizzled block row (omega (arith, held.long)) held.below)
          ∙ ap (λ k. take k (pick_l 0 block row)) (sym size)
          ∙ take-map (λ j. get_or block j 0) n row
          ∙ ap (map (λ j. get_or block j 0)) held.front
          ∙ is,
    )

-- ---- a store

-- the first elements, up to n after a front
pub take_past : (xs ys : List ℕ) (n m : ℕ) → m ≡ length xs + n → take m (xs ++ ys) ≡ xs ++ take n ys
take_past [] ys n m e = ap (λ k. take k ys) (omega arith)
take_past (x ∷ xs) ys n zero e = absurd (omega arith)
take_past (x ∷ xs) ys n (suc m) e = ap (λ l. x ∷ l) (take_past xs ys n m (omega arith))

-- what is stored, up to n elements after a front
pub stored : (at n m : ℕ) (out ys : List ℕ) → m ≡ at + n → n ≤ length ys → at + length ys ≤ length out
    → take m (put_chunk at out ys) ≡ take at out ++ take n ys
stored at n m out ys e le room =
    sym (take-take m (at + length ys) (put_chunk at out ys) (omega arith))
    ∙ ap (take m) (take_more_put_chunk at out ys (at + length ys) refl room)
    ∙ take_past (take at out) ys n m (omega (arith, length-take-le at out (omega arith)))

-- ---- the bits of marks

-- The bits of marks followed by others.
mask_l-append : (xs ys : List Bool) → mask_l (xs ++ ys) ≡ mask_l xs + 2 ^ length xs * mask_l ys
mask_l-append [] ys = omega arith
mask_l-append (x ∷ xs) ys = omega (arith, mask_l-append xs ys, double (length xs) (mask_l ys))
  where
    double : (k m : ℕ) → 2 ^ suc k * m ≡ 2 * (2 ^ k * m)
    double k m = ap (λ n. n * m) (pow-succ' 2 k) ∙ mul_assoc 2 (2 ^ k) m

-- The bits of the first k marks and of the others.
split : (marks : List Bool) (k : ℕ) → k ≤ length marks
    → (mask_l marks ≡ mask_l (take k marks) + 2 ^ k * mask_l (drop k marks)) × (mask_l (take k marks) < 2 ^ k)
split marks k le =
    let size : length (take k marks) ≡ k = length-take-le k marks le in (
      ap mask_l (sym (take-append-drop k marks))
          ∙ mask_l-append (take k marks) (drop k marks)
          ∙ ap (λ n. mask_l (take k marks) + 2 ^ n * mask_l (drop k marks)) size,
      subst (λ n. mask_l (take k marks) < 2 ^ n) size (mask_l-lt (take k marks)),
    )

-- The lowest k bits are those of the first k marks.
pub first-bits : (marks : List Bool) (k : ℕ) → k ≤ length marks → mask_l marks % 2 ^ k ≡ mask_l (take k marks)
first-bits marks k le =
    let parts = split marks k le in
    ap (λ n. n % 2 ^ k) parts.0
    ∙ add-mul-mod_self_left (mask_l (take k marks)) (2 ^ k) (mask_l (drop k marks))
    ∙ mod-eq_of_lt parts.1

-- The lowest k bits have at most k ones.
pub ones-first : (bits k : ℕ) → k ≤ 16 → count_ones (bits % (1 * 2 ^ k % 2 ^ 64)) ≤ k
ones-first bits k le =
    subst (λ n. count_ones (bits % n) ≤ k) (sym (one_shl k 64 (omega arith))) (ones-le k (bits % 2 ^ k) (mod-lt bits (pow_pos k)))

module _ (marks : List Bool) (bits : ℕ) (sixteen : length marks ≡ 16) (is : bits ≡ mask_l marks) where
  -- The low eight bits are the first eight marks.
  pub front-bits : lowest_bits 8 (bits % 256) ≡ take 8 marks
  front-bits =
      let parts = split marks 8 (omega arith) in
      let low : bits % 256 ≡ mask_l (take 8 marks) = omega (arith, is, parts.0, parts.1) in
      ap (lowest_bits 8) low ∙ bits-of_mask 8 (take 8 marks) (length-take-le 8 marks (omega arith))

  -- The high eight bits are the last eight marks.
  pub back-bits : lowest_bits 8 (bits / 256) ≡ drop 8 marks
  back-bits =
      let parts = split marks 8 (omega arith) in
      let high : bits / 256 ≡ mask_l (drop 8 marks) = omega (arith, is, parts.0, parts.1) in
      ap (lowest_bits 8) high ∙ bits-of_mask 8 (drop 8 marks) (omega (arith, ap length (take-append-drop 8 marks), length-append (take 8 marks) (drop 8 marks), length-take-le 8 marks (omega arith)))
