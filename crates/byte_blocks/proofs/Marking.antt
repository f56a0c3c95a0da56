-- Marks, the number whose bits they are, and the bytes before the first mark.
use Rattle.std.proofs.Common.{◌≡◌, ◌<◌, ◌≤◌, ◌+◌, ◌-◌, ◌*◌, ◌/◌, ◌%◌, ◌^◌, ◌↔◌, ◌⊎◌, ◌==◌, ◌||◌, ℕ, zero, suc, Bool, true, false, cond, not, eqb, leb, max, bit_or, List, [], ◌∷◌, length, take, drop, get_or, map, refl, sym, ap, ap₂, subst, inl, inr, ◌∙◌, arith}
use Rattle.std.specs.Prelude.{Some, None, Option}
use Rattle.std.specs.Int.Bits.{or_step}
use Rattle.std.specs.Int.Count.{count_trailing_zeros, under}
use Rattle.std.specs.List.{position_or_len, All}
use Rattle.std.specs.Simd.Lanes.{mask_l, zip2}
use Rattle.std.proofs.lemmas.Bool.{cases_Bool, eqb-true, leb-true, le-leb}
use Rattle.std.proofs.lemmas.List.{length-map, length-take, get_or-take, take-take, take-append-drop, drop-take}
use Rattle.std.proofs.lemmas.List.Elements.{All-append, All-from_get_or}
use Rattle.std.proofs.lemmas.List.Sums.{fails_before_first, passes_at_first, prefix_len-le-length}
use Rattle.std.proofs.lemmas.Simd.{leading_from_mask_l, trailing_mask_l, mask_l-lt}
use Rattle.memchr.specs.Find.{IsFirstByte}
use Rattle.byte_blocks.specs.Marks.{lowest_bits, clear_front, IsFirstMark}
use Rattle.byte_blocks.specs.Bits.{mask-of_bits}
use native.Mathlib.Nat.{pow-succ'}

-- ---- the lowest bits

parts : (is_set : Bool) (n : ℕ) → (((cond is_set 1 0 + 2 * n) % 2 == 1) ≡ is_set) × ((cond is_set 1 0 + 2 * n) / 2 ≡ n)
parts true n = ((let odd : (1 + 2 * n) % 2 ≡ 1 = omega arith in rw odd refl), omega arith)
parts false n = ((let even : (0 + 2 * n) % 2 ≡ 0 = omega arith in rw even refl), omega arith)

-- The lowest bits of a number that is made of bits are those bits.
pub bits-of_mask : (n : ℕ) (bits : List Bool) → length bits ≡ n → lowest_bits n (mask_l bits) ≡ bits
unfolding lowest_bits
bits-of_mask zero [] long = refl
bits-of_mask zero (b ∷ bits) long = absurd (omega arith)
bits-of_mask (suc n) [] long = absurd (omega arith)
bits-of_mask (suc n) (b ∷ bits) long =
    let p = parts b (mask_l bits) in
    ap₂ (λ first rest. first ∷ rest) p.0 (ap (lowest_bits n) p.1 ∙ bits-of_mask n bits (omega arith))

pub length-lowest_bits : (n number : ℕ) → length (lowest_bits n number) ≡ n
unfolding lowest_bits
length-lowest_bits zero number = refl
length-lowest_bits (suc n) number = ap suc (length-lowest_bits n (number / 2))

-- ---- from a test to the bits

-- The bits of a test's result mark the bytes that pass it.
pub marks-of_test : (test : ℕ → Bool) (block : List ℕ) (number : ℕ) → length block ≡ 16 → number ≡ mask_l (map test block) → lowest_bits 16 number ≡ map test block
marks-of_test test block number long is = ap (lowest_bits 16) is ∙ bits-of_mask 16 (map test block) (length-map block test ∙ long)

pub below-of_test : (test : ℕ → Bool) (block : List ℕ) (number : ℕ) → length block ≡ 16 → number ≡ mask_l (map test block) → number < 0x1_0000
below-of_test test block number long is =
    let below = subst (λ n. mask_l (map test block) < 2 ^ n) (length-map block test ∙ long) (mask_l-lt (map test block)) in
    omega (arith, below, is)

-- ---- the first mark

each-same : (marks : List Bool) → map (λ b. b) marks ≡ marks
each-same [] = refl
each-same (b ∷ marks) = ap (λ l. b ∷ l) (each-same marks)

front-of_zero : (marks : List Bool) → mask_l marks ≡ 0 → clear_front marks ≡ length marks
front-of_zero marks none = leading_from_mask_l (λ b. b) marks (ap mask_l (each-same marks) ∙ none)

front-of_number : (marks : List Bool) → length marks ≤ 64 → 0 < mask_l marks → count_trailing_zeros 64 (mask_l marks) ≡ clear_front marks
front-of_number marks few some =
    let same : mask_l (map (λ b. b) marks) ≡ mask_l marks = ap mask_l (each-same marks) in
    ap (count_trailing_zeros 64) (sym same) ∙ trailing_mask_l (λ b. b) 64 marks few (omega (arith, same, some))

front-within : (marks : List Bool) → 0 < mask_l marks → clear_front marks < length marks
front-within [] some = absurd (omega arith)
front-within (b ∷ marks) some = by b (mask_l marks) (clear_front marks) (length marks) some (front-within marks)
  where
    by : (is_marked : Bool) (number front size : ℕ) → 0 < cond is_marked 1 0 + 2 * number → (0 < number → front < size) → cond (not is_marked) (1 + front) 0 < suc size
    by true number front size some rest = omega arith
    by false number front size some rest = omega (arith, rest (omega arith))

-- ---- marks, and the number whose bits they are

pub number-of_marks : (number : ℕ) (marks : List Bool) → lowest_bits 16 number ≡ marks → number < 0x1_0000 → number ≡ mask_l marks
number-of_marks number marks view small = sym (mask-of_bits 16 number small) ∙ ap mask_l view

pub sixteen : (number : ℕ) (marks : List Bool) → lowest_bits 16 number ≡ marks → length marks ≡ 16
sixteen number marks view = ap length (sym view) ∙ length-lowest_bits 16 number

pub zero-clear : (number : ℕ) (marks : List Bool) → lowest_bits 16 number ≡ marks → number < 0x1_0000 → number ≡ 0 → clear_front marks ≡ length marks
zero-clear number marks view small none = front-of_zero marks (sym (number-of_marks number marks view small) ∙ none)

pub zeros-first : (number : ℕ) (marks : List Bool) → lowest_bits 16 number ≡ marks → number < 0x1_0000 → ¬ (number ≡ 0)
    → (clear_front marks ≡ count_trailing_zeros 64 number) × (count_trailing_zeros 64 number < length marks)
zeros-first number marks view small some =
    let is = number-of_marks number marks view small in
    let set : 0 < mask_l marks = omega (arith, is, some) in
    let at : clear_front marks ≡ count_trailing_zeros 64 number = sym (front-of_number marks (omega (arith, sixteen number marks view)) set) ∙ ap (count_trailing_zeros 64) (sym is) in
    (at, omega (arith, at, front-within marks set))

all-zeros : (number : ℕ) → number ≡ 0 → count_trailing_zeros 64 number ≡ 64
unfolding count_trailing_zeros
all-zeros number none = ap (count_trailing_zeros 64) none

-- The number of trailing zeros: 64 if there is no mark, otherwise the number of bytes before the first mark.
zeros : (number : ℕ) (marks : List Bool) → lowest_bits 16 number ≡ marks → number < 0x1_0000
    → ((eqb number 0 ≡ true) × (count_trailing_zeros 64 number ≡ 64) × (clear_front marks ≡ 16))
    ⊎ ((eqb number 0 ≡ false) × (count_trailing_zeros 64 number ≡ clear_front marks) × (clear_front marks < 16))
zeros number marks view small = elim (cases_Bool (eqb number 0)) [
  | inl e ↦
      let none = eqb-true number 0 e in
      inl (e, all-zeros number none, zero-clear number marks view small none ∙ sixteen number marks view)
  | inr e ↦
      let at = zeros-first number marks view small (λ z. absurd (cc (e, ap (λ n. eqb n 0) z))) in
      inr (e, sym at.0, omega (arith, at.0, at.1, sixteen number marks view))
]

pub zero-is_clear : (number : ℕ) (marks : List Bool) → lowest_bits 16 number ≡ marks → number < 0x1_0000 → (eqb number 0 ≡ true) ↔ (16 ≤ clear_front marks)
zero-is_clear number marks view small = elim (zeros number marks view small) [
  | inl h ↦ (λ e. omega (arith, h.2), λ all. h.0)
  | inr h ↦ (λ e. absurd (cc (h.0, e)), λ all. absurd (omega (arith, h.2, all)))
]

pub zeros-clear_before : (number count : ℕ) (marks : List Bool) → lowest_bits 16 number ≡ marks → number < 0x1_0000 → count ≤ 16
    → (leb count (count_trailing_zeros 64 number) ≡ true) ↔ (count ≤ clear_front marks)
zeros-clear_before number count marks view small few = elim (zeros number marks view small) [
  | inl h ↦ (λ e. omega (arith, few, h.2), λ before. le-leb count (count_trailing_zeros 64 number) (omega (arith, few, h.1)))
  | inr h ↦ (
    λ e. omega (arith, h.1, leb-true count (count_trailing_zeros 64 number) e),
    λ before. le-leb count (count_trailing_zeros 64 number) (omega (arith, h.1, before)),
  )
]

-- ---- marks of either, and complements

either-bit : (r s : ℕ) → r < 2 → s < 2 → (max r s == 1) ≡ ((r == 1) || (s == 1))
either-bit zero zero h g = refl
either-bit zero (suc zero) h g = refl
either-bit (suc zero) zero h g = refl
either-bit (suc zero) (suc zero) h g = refl
either-bit (suc (suc r)) s h g = absurd (omega arith)
either-bit zero (suc (suc s)) h g = absurd (omega arith)
either-bit (suc zero) (suc (suc s)) h g = absurd (omega arith)

bits-or : (n a b : ℕ) → lowest_bits n (bit_or a b) ≡ zip2 (λ x y. x || y) (lowest_bits n a) (lowest_bits n b)
unfolding lowest_bits
bits-or zero a b = refl
bits-or (suc n) a b =
    let step : bit_or a b ≡ bit_or (a / 2) (b / 2) * 2 + max (a % 2) (b % 2) = or_step a b in
    let lowest : bit_or a b % 2 ≡ max (a % 2) (b % 2) = omega (arith, step) in
    let others : bit_or a b / 2 ≡ bit_or (a / 2) (b / 2) = omega (arith, step) in
    ap₂ (λ x xs. x ∷ xs)
    (ap (λ r. r == 1) lowest ∙ either-bit (a % 2) (b % 2) (omega arith) (omega arith))
    (ap (lowest_bits n) others ∙ bits-or n (a / 2) (b / 2))

pub marks-or : (a b : ℕ) (l m : List Bool) → lowest_bits 16 a ≡ l → lowest_bits 16 b ≡ m → lowest_bits 16 (bit_or a b) ≡ zip2 (λ x y. x || y) l m
marks-or a b l m e f = bits-or 16 a b ∙ ap₂ (zip2 (λ x y. x || y)) e f

other-bit : (r : ℕ) → r < 2 → (1 - r == 1) ≡ not (r == 1)
other-bit zero h = refl
other-bit (suc zero) h = refl
other-bit (suc (suc r)) h = absurd (omega arith)

bits-complement : (n number rest : ℕ) → number + rest + 1 ≡ 2 ^ n → lowest_bits n rest ≡ map not (lowest_bits n number)
unfolding lowest_bits
bits-complement zero number rest e = refl
bits-complement (suc n) number rest e =
    let double : number + rest + 1 ≡ 2 * 2 ^ n = e ∙ pow-succ' 2 n in
    let lowest : rest % 2 ≡ 1 - number % 2 = omega (arith, double) in
    let others : number / 2 + rest / 2 + 1 ≡ 2 ^ n = omega (arith, double) in
    ap₂ (λ x xs. x ∷ xs)
    (ap (λ r. r == 1) lowest ∙ other-bit (number % 2) (omega arith))
    (bits-complement n (number / 2) (rest / 2) others)

pub marks-complement : (number : ℕ) (marks : List Bool) → lowest_bits 16 number ≡ marks → number < 0x1_0000 → lowest_bits 16 (0xffff - number) ≡ map not marks
marks-complement number marks view small = bits-complement 16 number (0xffff - number) (omega (arith, small)) ∙ ap (map not) view

-- ---- the first mark, found with a bit above the marks

under-bit : (r t : ℕ) → r < 2 → under r t ≡ cond (not (r == 1)) (1 + t) 0
under-bit zero t small = omega arith
under-bit (suc zero) t small = refl
under-bit (suc (suc r)) t small = absurd (omega arith)

-- With bit k set, the trailing zeros are those of the k bits below it.
zeros-below : (n k number : ℕ) → k < n → count_trailing_zeros n (bit_or number (2 ^ k)) ≡ clear_front (lowest_bits k number)
unfolding count_trailing_zeros lowest_bits
zeros-below zero k number small = absurd (omega arith)
zeros-below (suc n) zero number small =
    let odd : bit_or number 1 % 2 ≡ 1 = omega (arith, or_step number 1) in
    ap (λ r. under r (count_trailing_zeros n (bit_or number 1 / 2))) odd
zeros-below (suc n) (suc k) number small =
    let step = or_step number (2 ^ suc k) in
    let half : 2 ^ suc k / 2 ≡ 2 ^ k = omega (arith, pow-succ' 2 k) in
    let lowest : bit_or number (2 ^ suc k) % 2 ≡ number % 2 = omega (arith, step, pow-succ' 2 k) in
    let others : bit_or number (2 ^ suc k) / 2 ≡ bit_or (number / 2) (2 ^ suc k / 2) = omega (arith, step, pow-succ' 2 k) in
    let rest : count_trailing_zeros n (bit_or number (2 ^ suc k) / 2) ≡ clear_front (lowest_bits k (number / 2)) =
    ap (count_trailing_zeros n) (others ∙ ap (bit_or (number / 2)) half) ∙ zeros-below n k (number / 2) (omega arith) in
    ap₂ under lowest rest ∙ under-bit (number % 2) (clear_front (lowest_bits k (number / 2))) (omega arith)

pub zeros-front : (number : ℕ) (marks : List Bool) → lowest_bits 16 number ≡ marks → count_trailing_zeros 64 (bit_or number 0x1_0000) ≡ clear_front marks
zeros-front number marks view = zeros-below 64 16 number (omega arith) ∙ ap clear_front view

pub front-most : (number : ℕ) (marks : List Bool) → lowest_bits 16 number ≡ marks → clear_front marks ≤ 16
front-most number marks view = omega (arith, sixteen number marks view, prefix_len-le-length (λ is_marked. not is_marked) marks)

-- ---- bytes before the first mark

front-map : (test : ℕ → Bool) (block : List ℕ) → clear_front (map test block) ≡ position_or_len test block
front-map test [] = refl
front-map test (b ∷ block) = ap (λ n. cond (not (test b)) (1 + n) 0) (front-map test block)

-- The index of the first byte that passes is that of the first mark.
pub first-byte : (test : ℕ → Bool) (block : List ℕ) (marks : List Bool) (found : Option ℕ) → marks ≡ map test block → IsFirstMark marks found → IsFirstByte test block found
first-byte test block marks found is first = by found (subst (λ m. IsFirstMark m found) is first)
  where
    fails : (k : ℕ) → k < position_or_len test block → ¬ (test (get_or block k 0) ≡ true)
    fails k before passes = absurd (cc (passes, fails_before_first test block k 0 before))

    by : (found : Option ℕ) → IsFirstMark (map test block) found → IsFirstByte test block found
    by None first =
        λ k low high. fails k (omega (arith, first, front-map test block, length-map block test, high))
    by (Some k) first =
        let at : position_or_len test block ≡ k = sym (front-map test block) ∙ first.0 in
        let within : k < length block = omega (arith, first.1, length-map block test) in (
          record { low = omega arith; high = within; before = λ i low high. fails i (omega (arith, at, high)) },
          subst (λ i. test (get_or block i 0) ≡ true) at (passes_at_first test block 0 (omega (arith, at, within))),
        )

-- No byte before the first mark passes.
pub fails-before : (test : ℕ → Bool) (block : List ℕ) (marks : List Bool) (n : ℕ) → marks ≡ map test block → n ≤ clear_front marks → (k : ℕ) → k < n → test (get_or block k 0) ≡ false
fails-before test block marks n is le k small = fails_before_first test block k 0 (omega (arith, small, le, ap clear_front is ∙ front-map test block))

-- None of the first n bytes passes, if n is at most the number of bytes before the first mark.
pub clear-before : (test : ℕ → Bool) (block : List ℕ) (marks : List Bool) (n : ℕ) → marks ≡ map test block → n ≤ clear_front marks → All (λ b. test b ≡ false) (take n block)
clear-before test block marks n is le =
    All-from_get_or (λ b. test b ≡ false) (take n block) 0 (λ k inside.
    let small : k < n = omega (arith, inside, length-take n block) in
    ap test (get_or-take n block k 0 small) ∙ fails-before test block marks n is le k small)

-- What holds for the bytes before a block, and for the first n of the block, holds for all of these.
pub more-of : (P : ℕ → Type 0) (bytes block : List ℕ) (at n : ℕ) → All P (take at bytes) → block ≡ take 16 (drop at bytes) → n ≤ 16 → All P (take n block) → All P (take (at + n) bytes)
more-of P bytes block at n before is le of_block =
    let Q : List ℕ → Type 0 = λ l. All P l in
    let l = take (at + n) bytes in
    let front = subst Q (sym (take-take at (at + n) bytes (omega arith))) before in
    let back = subst Q (ap (take n) is ∙ take-take n 16 (drop at bytes) le ∙ sym (drop-take at n bytes)) of_block in
    subst Q (take-append-drop at l) (All-append P (take at l) (drop at l) front back)
