-- A search for the first byte that passes a test, block after block.
use Rattle.std.proofs.Common.{◌≡◌, ◌<◌, ◌≤◌, ◌+◌, ◌-◌, ℕ, Bool, true, List, ◌++◌, length, take, drop, get_or, refl, sym, ap, inl, inr, ◌∙◌, arith}
use Rattle.std.specs.Prelude.{Some, None}
use Rattle.std.specs.List.{range_with_len}
use Rattle.std.specs.Simd.Lanes.{chunk, pick_l}
use Rattle.std.proofs.lemmas.Bool.{cases_lt}
use Rattle.std.proofs.lemmas.List.{length-append, length-drop, length-take-le, get_or-take, get_or-drop, get_or_append_left, get_or-append-add, take_all}
use Rattle.std.proofs.lemmas.Simd.{pick_l_whole}
use Rattle.memchr.specs.Find.{Nowhere, Passes, IsFirst, IsFirstByte}

-- ---- a block of sixteen, or of another size

in-block : (bytes : List ℕ) (at n k : ℕ) → at ≤ k → k < at + n → get_or (take n (drop at bytes)) (k - at) 0 ≡ get_or bytes k 0
in-block bytes at n k low high =
    let place : at + (k - at) ≡ k = omega (arith, low) in
    get_or-take n (drop at bytes) (k - at) 0 (omega (arith, low, high)) ∙ get_or-drop at bytes (k - at) 0 ∙ ap (λ i. get_or bytes i 0) place

pub long-block : (bytes : List ℕ) (at n : ℕ) → at + n ≤ length bytes → length (take n (drop at bytes)) ≡ n
long-block bytes at n within = length-take-le n (drop at bytes) (omega (arith, within, length-drop at bytes))

-- If no byte of a block passes, none passes up to the end of the block.
pub none-in_block : (test : ℕ → Bool) (bytes : List ℕ) (from at n so_far : ℕ) → at + n ≤ length bytes → at ≤ so_far → Nowhere (Passes test bytes) from so_far
    → IsFirstByte test (take n (drop at bytes)) None → Nowhere (Passes test bytes) from (at + n)
none-in_block test bytes from at n so_far within low none block k i j passes = elim (cases_lt k so_far) [
  | inl h ↦ none k i h passes
  | inr h ↦ block (k - at) (omega arith) (omega (arith, h, j, low, long-block bytes at n within)) (ap test (in-block bytes at n k (omega (arith, h, low)) j) ∙ passes)
]

-- If no byte before a block passes, the first that passes in the block is the first of all.
pub first-in_block : (test : ℕ → Bool) (bytes : List ℕ) (from at n so_far first : ℕ) → from ≤ at → at + n ≤ length bytes → at ≤ so_far → Nowhere (Passes test bytes) from so_far
    → IsFirstByte test (take n (drop at bytes)) (Some first) → IsFirst (Passes test bytes) from (length bytes) (Some (at + first))
first-in_block test bytes from at n so_far first on within low none block =
    let small : first < n = omega (arith, block.0.high, long-block bytes at n within) in
    let back : at + first - at ≡ first = omega arith in (
      record {
        low = omega (arith, on);
        high = omega (arith, within, small);
        before = λ k i j passes. elim (cases_lt k so_far) [
          | inl h ↦ none k i h passes
          | inr h ↦ block.0.before (k - at) (omega arith) (omega (arith, h, j, low)) (ap test (in-block bytes at n k (omega (arith, h, low)) (omega (arith, j, small))) ∙ passes)
        ];
      },
      ap test (sym (in-block bytes at n (at + first) (omega arith) (omega (arith, small))) ∙ ap (λ i. get_or (take n (drop at bytes)) i 0) back) ∙ block.1,
    )

-- ---- the first eight bytes and the last eight

abbrev both : List ℕ → List ℕ
both bytes = take 8 bytes ++ drop (length bytes - 8) bytes

pub ends-joined : (bytes : List ℕ) → 8 ≤ length bytes
    → pick_l 0 (take 8 bytes ++ chunk (length bytes - 8) 8 bytes) (range_with_len 0 16) ≡ take 8 bytes ++ drop (length bytes - 8) bytes
ends-joined bytes long =
    let at = length bytes - 8 in
    let left : length (drop at bytes) ≡ 8 = omega (arith, length-drop at bytes, long) in
    let last : chunk at 8 bytes ≡ drop at bytes = take_all 8 (drop at bytes) (omega (arith, left)) in
    pick_l_whole 0 (take 8 bytes ++ chunk at 8 bytes) 16
    (length-append (take 8 bytes) (chunk at 8 bytes) ∙ omega (arith, length-take-le 8 bytes long, left, ap length last))
    ∙ ap (λ l. take 8 bytes ++ l) last

pub long-ends : (bytes : List ℕ) → 8 ≤ length bytes → length (take 8 bytes ++ drop (length bytes - 8) bytes) ≡ 16
long-ends bytes long =
    let at = length bytes - 8 in
    length-append (take 8 bytes) (drop at bytes) ∙ omega (arith, length-take-le 8 bytes long, length-drop at bytes)

in-first : (bytes : List ℕ) (k : ℕ) → 8 ≤ length bytes → k < 8 → get_or (both bytes) k 0 ≡ get_or bytes k 0
in-first bytes k long low =
    get_or_append_left (take 8 bytes) (drop (length bytes - 8) bytes) 0 k (omega (arith, low, length-take-le 8 bytes long)) ∙ get_or-take 8 bytes k 0 low

in-last : (bytes : List ℕ) (k j : ℕ) → 8 ≤ length bytes → k ≡ 8 + j → get_or (both bytes) k 0 ≡ get_or bytes (length bytes - 8 + j) 0
in-last bytes k j long is =
    let rest = drop (length bytes - 8) bytes in
    let place : k ≡ length (take 8 bytes) + j = omega (arith, is, length-take-le 8 bytes long) in
    ap (λ i. get_or (both bytes) i 0) place ∙ get_or-append-add (take 8 bytes) rest j 0 ∙ get_or-drop (length bytes - 8) bytes j 0

-- A byte of the text, given its index in the block.
back-in_last : (test : ℕ → Bool) (bytes : List ℕ) (k : ℕ) → 8 ≤ length bytes → length bytes ≤ 16 → 8 ≤ k
    → test (get_or bytes k 0) ≡ true → test (get_or (both bytes) (8 + (k - (length bytes - 8))) 0) ≡ true
back-in_last test bytes k long short low passes =
    let j = k - (length bytes - 8) in
    let place : length bytes - 8 + j ≡ k = omega (arith, low, short, long) in
    ap test (in-last bytes (8 + j) j long refl ∙ ap (λ i. get_or bytes i 0) place) ∙ passes

pub none-in_ends : (test : ℕ → Bool) (bytes : List ℕ) → 8 ≤ length bytes → length bytes ≤ 16 → IsFirstByte test (take 8 bytes ++ drop (length bytes - 8) bytes) None → IsFirstByte test bytes None
none-in_ends test bytes long short none k low high passes = elim (cases_lt k 8) [
  | inl h ↦ none k (omega arith) (omega (arith, h, long-ends bytes long)) (ap test (in-first bytes k long h) ∙ passes)
  | inr h ↦ none (8 + (k - (length bytes - 8))) (omega arith) (omega (arith, h, high, short, long, long-ends bytes long)) (back-in_last test bytes k long short h passes)
]

pub first-in_first : (test : ℕ → Bool) (bytes : List ℕ) (first : ℕ) → 8 ≤ length bytes → first < 8
    → IsFirstByte test (take 8 bytes ++ drop (length bytes - 8) bytes) (Some first) → IsFirstByte test bytes (Some first)
first-in_first test bytes first long low found = (
  record {
    low = omega arith;
    high = omega (arith, low, long);
    before = λ k i j passes. found.0.before k i j (ap test (in-first bytes k long (omega (arith, j, low))) ∙ passes);
  },
  ap test (sym (in-first bytes first long low)) ∙ found.1,
)

pub first-in_last : (test : ℕ → Bool) (bytes : List ℕ) (first : ℕ) → 8 ≤ length bytes → length bytes ≤ 16 → 8 ≤ first
    → IsFirstByte test (take 8 bytes ++ drop (length bytes - 8) bytes) (Some first) → IsFirstByte test bytes (Some (length bytes - 8 + (first - 8)))
first-in_last test bytes first long short low found =
    let high : first < 16 = omega (arith, found.0.high, long-ends bytes long) in
    let place : first ≡ 8 + (first - 8) = omega (arith, low) in (
      record {
        low = omega arith;
        high = omega (arith, high, long, low);
        before = λ k i j passes. elim (cases_lt k 8) [
          | inl h ↦ found.0.before k i (omega (arith, h, low)) (ap test (in-first bytes k long h) ∙ passes)
          | inr h ↦ found.0.before (8 + (k - (length bytes - 8))) (omega arith) (omega (arith, h, j, short, long, low)) (back-in_last test bytes k long short h passes)
        ];
      },
      ap test (sym (in-last bytes first (first - 8) long place)) ∙ found.1,
    )
