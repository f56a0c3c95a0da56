-- Spread bytes: the table of lanes, and what is written with it.
use Rattle.std.proofs.Common.{◌≡◌, ℕ, zero, suc, ◌+◌, ◌%◌, ◌/◌, ◌^◌, ◌<◌, ◌≤◌, Bool, true, false, cond, List, [], ◌∷◌, ◌++◌, refl, sym, ap, ap₂, zero-add, ◌∙◌, append_assoc, arith, length, take, drop, get_or, map, w8}
use Rattle.std.specs.Int.RustNames.{count_ones}
use Rattle.std.specs.List.{range_with_len}
use Rattle.std.specs.Simd.Lanes.{pick_l, put_chunk, mask_l}
use Rattle.std.proofs.lemmas.Bool.{agree_below_at}
use Rattle.std.proofs.lemmas.List.{length-append, length-take, length-take-le, length-drop, take_at, take_all, take-take, take-append-drop, drop_at, drop-drop, map-append, get_or-take, get_or-drop}
use Rattle.std.proofs.lemmas.Nat.{ones_le_self}
use Rattle.std.proofs.lemmas.Simd.{swz_l, SwzOk, ones-mask_l_cons, pick_l_left, pick_l-range_with_len}
use Rattle.byte_blocks.specs.Marks.{lowest_bits, clear_front, spread}
use Rattle.byte_blocks.specs.Bits.{mask-of_bits}
use Rattle.byte_blocks.specs.declared.spread.lanes.TheConstants.{LANES}
use Rattle.byte_blocks.proofs.Marking.{length-lowest_bits}
use Rattle.byte_blocks.proofs.Rows.{IsRow, is_row, row-from_test, row-below, row-picks, swizzled-long, take_past, stored, first-bits, front-bits, back-bits}

-- ---- the table

-- the lanes at the front of a row, for bytes from lane i on
abbrev lanes : ℕ → List Bool → List ℕ
lanes i [] = []
lanes i (is_marked ∷ marks) = cond is_marked ((8 + i) ∷ i ∷ []) (i ∷ []) ++ lanes (suc i) marks

-- the row for these bits
abbrev pub row : ℕ → List ℕ
row bits = get_or LANES bits []

-- A test of all 256 rows.
tested : (bits : ℕ) → bits < 256 → is_row (lanes 0 (lowest_bits 8 bits)) (row bits) ≡ true
unfolding lowest_bits
tested bits small = agree_below_at (λ b. is_row (lanes 0 (lowest_bits 8 b)) (row b)) (λ b. true) 256 bits refl small

-- What each row contains.
row_at : (bits : ℕ) → bits < 256 → IsRow (lanes 0 (lowest_bits 8 bits)) (row bits)
row_at bits small = row-from_test (lanes 0 (lowest_bits 8 bits)) (row bits) (tested bits small)

-- A block can be swizzled by a row.
pub lanes-below : (bits : ℕ) → bits < 256 → SwzOk w8 16 16 0 (row bits)
lanes-below bits small = row-below (lanes 0 (lowest_bits 8 bits)) (row bits) (row_at bits small)

-- ---- spread bytes

-- Spreading adds one byte for each mark.
length-spread : (marks : List Bool) (before bytes : List ℕ) → length before ≡ length marks → length bytes ≡ length marks
    → length (spread marks before bytes) ≡ length marks + count_ones (mask_l marks)
length-spread [] before bytes e f = omega (arith, ones_le_self 0)
length-spread (m ∷ marks) [] bytes e f = absurd (omega arith)
length-spread (m ∷ marks) (a ∷ before) [] e f = absurd (omega arith)
length-spread (m ∷ marks) (a ∷ before) (b ∷ bytes) e f =
    one m ∙ omega (arith, length-spread marks before bytes (omega arith) (omega arith), ones-mask_l_cons m marks)
  where
    one : (t : Bool) → length (cond t (a ∷ b ∷ []) (b ∷ []) ++ spread marks before bytes) ≡ cond t 1 0 + (1 + length (spread marks before bytes))
    one true = omega arith
    one false = omega arith

-- Spreading bytes followed by others.
spread-append : (marks more : List Bool) (before before_more bytes bytes_more : List ℕ) → length before ≡ length marks → length bytes ≡ length marks
    → spread (marks ++ more) (before ++ before_more) (bytes ++ bytes_more) ≡ spread marks before bytes ++ spread more before_more bytes_more
spread-append [] more [] before_more [] bytes_more e f = refl
spread-append [] more [] before_more (b ∷ bytes) bytes_more e f = absurd (omega arith)
spread-append [] more (a ∷ before) before_more bytes bytes_more e f = absurd (omega arith)
spread-append (m ∷ marks) more [] before_more bytes bytes_more e f = absurd (omega arith)
spread-append (m ∷ marks) more (a ∷ before) before_more [] bytes_more e f = absurd (omega arith)
spread-append (m ∷ marks) more (a ∷ before) before_more (b ∷ bytes) bytes_more e f =
    let first = cond m (a ∷ b ∷ []) (b ∷ []) in
    ap (λ l. first ++ l) (spread-append marks more before before_more bytes bytes_more (omega arith) (omega arith))
    ∙ sym (append_assoc first (spread marks before bytes) (spread more before_more bytes_more))

-- what the lanes of a row pick
picked : (pairs : List ℕ) (i : ℕ) (marks : List Bool) (before bytes : List ℕ) → length before ≡ length marks → length bytes ≡ length marks
    → ((k : ℕ) → k < length marks → get_or pairs (i + k) 0 ≡ get_or bytes k 0)
    → ((k : ℕ) → k < length marks → get_or pairs (8 + (i + k)) 0 ≡ get_or before k 0)
    → pick_l 0 pairs (lanes i marks) ≡ spread marks before bytes
picked pairs i [] before bytes e f h g = refl
picked pairs i (m ∷ marks) [] bytes e f h g = absurd (omega arith)
picked pairs i (m ∷ marks) (a ∷ before) [] e f h g = absurd (omega arith)
picked pairs i (m ∷ marks) (a ∷ before) (b ∷ bytes) e f h g =
    map-append (λ k. get_or pairs k 0) (cond m ((8 + i) ∷ i ∷ []) (i ∷ [])) (lanes (suc i) marks)
    ∙ ap₂ (λ x y. x ++ y)
    (one m (ap (λ n. get_or pairs n 0) (omega arith) ∙ h 0 (omega arith)) (ap (λ n. get_or pairs n 0) (omega arith) ∙ g 0 (omega arith)))
    (picked pairs (suc i) marks before bytes (omega arith) (omega arith)
    (λ k lt. ap (λ n. get_or pairs n 0) (omega arith) ∙ h (suc k) (omega arith))
    (λ k lt. ap (λ n. get_or pairs n 0) (omega arith) ∙ g (suc k) (omega arith)))
  where
    one : (t : Bool) → get_or pairs i 0 ≡ b → get_or pairs (8 + i) 0 ≡ a
        → map (λ k. get_or pairs k 0) (cond t ((8 + i) ∷ i ∷ []) (i ∷ [])) ≡ cond t (a ∷ b ∷ []) (b ∷ [])
    one true p q = ap₂ (λ x y. x ∷ y ∷ []) q p
    one false p q = ap (λ x. x ∷ []) p

-- ---- eight bytes

-- what a row picks, stored
pub eight-stored : (at : ℕ) (out pairs : List ℕ) (bits : ℕ) → length pairs ≡ 16 → at + 16 ≤ length out → bits < 256
    → take (at + (8 + count_ones bits)) (put_chunk at out (swz_l w8 16 pairs 0 (row bits)))
    ≡ take at out ++ spread (lowest_bits 8 bits) (drop 8 pairs) (take 8 pairs)
eight-stored at out pairs bits long room small =
    let marks = lowest_bits 8 bits in
    let size : length marks ≡ 8 = length-lowest_bits 8 bits in
    let rest : length (drop 8 pairs) ≡ length marks = omega (arith, size, length-drop 8 pairs) in
    let first : length (take 8 pairs) ≡ length marks = length-take-le 8 pairs (omega arith) ∙ sym size in
    let whole = spread marks (drop 8 pairs) (take 8 pairs) in
    let picks : pick_l 0 pairs (lanes 0 marks) ≡ whole =
    picked pairs 0 marks (drop 8 pairs) (take 8 pairs) rest first
    (λ k lt. ap (λ n. get_or pairs n 0) (zero-add k) ∙ sym (get_or-take 8 pairs k 0 (omega (arith, lt, size))))
    (λ k lt. ap (λ n. get_or pairs (8 + n) 0) (zero-add k) ∙ sym (get_or-drop 8 pairs k 0)) in
    let held = row_at bits small in
    let found = row-picks pairs (lanes 0 marks) (row bits) whole held picks in
    let count : length whole ≡ 8 + count_ones bits =
    length-spread marks (drop 8 pairs) (take 8 pairs) rest first ∙ ap₂ (λ n m. n + count_ones m) size (mask-of_bits 8 bits small) in
    let lanes_long = swizzled-long pairs (lanes 0 marks) (row bits) held in
    stored at (length whole) (at + (8 + count_ones bits)) out (swz_l w8 16 pairs 0 (row bits)) (omega arith) (omega (arith, found.0, lanes_long)) (omega (arith, room, lanes_long))
    ∙ ap (λ l. take at out ++ l) found.1

-- ---- without marks

-- Before the first mark, no byte is inserted.
pub spread-clear : (k : ℕ) (marks : List Bool) (before bytes : List ℕ) → k ≤ clear_front marks → k ≤ length before → k ≤ length bytes
    → spread (take k marks) (take k before) (take k bytes) ≡ take k bytes
spread-clear zero marks before bytes h l m = refl
spread-clear (suc k) [] before bytes h l m = absurd (omega (arith, h))
spread-clear (suc k) (true ∷ marks) before bytes h l m = absurd (omega (arith, h))
spread-clear (suc k) (false ∷ marks) [] bytes h l m = absurd (omega (arith, l))
spread-clear (suc k) (false ∷ marks) (a ∷ before) [] h l m = absurd (omega (arith, m))
spread-clear (suc k) (false ∷ marks) (a ∷ before) (b ∷ bytes) h l m =
    ap (λ v. b ∷ v) (spread-clear k marks before bytes (omega (arith, h)) (omega (arith, l)) (omega (arith, m)))

-- ---- sixteen bytes, by their halves

-- Eight lanes of two vectors, starting with lane i.
pairs-picked : (i : ℕ) (block before : List ℕ) → length block ≡ 16 → length before ≡ 16 → i + 8 ≤ 16
    → pick_l 0 (block ++ before) (range_with_len i 8) ≡ pick_l 0 block (range_with_len i 8)
    → pick_l 0 (block ++ before) (range_with_len i 8 ++ range_with_len (16 + i) 8) ≡ take 8 (drop i block) ++ take 8 (drop i before)
pairs-picked i block before long long_before within left =
    map-append (λ k. get_or (block ++ before) k 0) (range_with_len i 8) (range_with_len (16 + i) 8)
    ∙ ap₂ (λ x y. x ++ y)
    (left ∙ pick_l-range_with_len 0 block i 8 (omega arith))
    (pick_l-range_with_len 0 (block ++ before) (16 + i) 8 (omega (arith, length-append block before))
    ∙ ap (take 8) (sym (drop-drop i 16 (block ++ before)) ∙ ap (drop i) (drop_at block before 16 long)))

-- The lanes of the first half.
pub front-pairs : (block before : List ℕ) → length block ≡ 16 → length before ≡ 16
    → pick_l 0 (block ++ before) (range_with_len 0 8 ++ range_with_len 16 8) ≡ take 8 block ++ take 8 before
front-pairs block before long long_before = pairs-picked 0 block before long long_before (omega arith) (pick_l_left 0 block before 16 (range_with_len 0 8) long tt)

-- The lanes of the second half.
pub back-pairs : (block before : List ℕ) → length block ≡ 16 → length before ≡ 16
    → pick_l 0 (block ++ before) (range_with_len 8 8 ++ range_with_len 24 8) ≡ drop 8 block ++ drop 8 before
back-pairs block before long long_before =
    pairs-picked 8 block before long long_before (omega arith) (pick_l_left 0 block before 16 (range_with_len 8 8) long tt)
    ∙ ap₂ (λ x y. x ++ y)
    (take_all 8 (drop 8 block) (omega (arith, length-drop 8 block)))
    (take_all 8 (drop 8 before) (omega (arith, length-drop 8 before)))

-- The index after the first k bytes, within what is written.
cut : (start new : List ℕ) (marks : List Bool) (before bytes : List ℕ) (full k m : ℕ) → length before ≡ length marks → length bytes ≡ length marks → k ≤ length marks
    → take full new ≡ start ++ spread marks before bytes → m ≡ length start + (k + count_ones (mask_l (take k marks)))
    → take m new ≡ start ++ spread (take k marks) (take k before) (take k bytes)
cut start new marks before bytes full k m e f le held is =
    let first = spread (take k marks) (take k before) (take k bytes) in
    let rest = spread (drop k marks) (drop k before) (drop k bytes) in
    let size : length (take k marks) ≡ k = length-take-le k marks le in
    let size_before : length (take k before) ≡ length (take k marks) = length-take-le k before (omega arith) ∙ sym size in
    let size_bytes : length (take k bytes) ≡ length (take k marks) = length-take-le k bytes (omega arith) ∙ sym size in
    let joined : spread marks before bytes ≡ first ++ rest =
    (λ i. spread (sym (take-append-drop k marks) i) (sym (take-append-drop k before) i) (sym (take-append-drop k bytes) i))
    ∙ spread-append (take k marks) (drop k marks) (take k before) (drop k before) (take k bytes) (drop k bytes) size_before size_bytes in
    let n = length first in
    let count : n ≡ k + count_ones (mask_l (take k marks)) = length-spread (take k marks) (take k before)
    (take k bytes) size_before size_bytes ∙ ap (λ x. x + count_ones (mask_l (take k marks))) size in
    let within : m ≤ full =
    omega (arith, is, count, ap length held, length-take full new, length-append start (spread marks before bytes), ap length joined, length-append first rest) in
    sym (take-take m full new within)
    ∙ ap (take m) held
    ∙ take_past start (spread marks before bytes) n m (omega (arith, is, count))
    ∙ ap (λ l. start ++ l) (ap (take n) joined ∙ take_at first rest n refl)

module _ (marks : List Bool) (block before : List ℕ) (sixteen : length marks ≡ 16) (long : length block ≡ 16) (long_before : length before ≡ 16) where
  -- The first half is written.
  front-half : (bits : ℕ) (pairs : List ℕ) → bits ≡ mask_l marks → pairs ≡ take 8 block ++ take 8 before
      → spread (lowest_bits 8 (bits % 256)) (drop 8 pairs) (take 8 pairs) ≡ spread (take 8 marks) (take 8 before) (take 8 block)
  front-half bits pairs is pairs_are =
      let eight = length-take-le 8 block (omega arith) in
      let behind : drop 8 pairs ≡ take 8 before = ap (drop 8) pairs_are ∙ drop_at (take 8 block) (take 8 before) 8 eight in
      let first : take 8 pairs ≡ take 8 block = ap (take 8) pairs_are ∙ take_at (take 8 block) (take 8 before) 8 eight in
      λ i. spread (front-bits marks bits sixteen is i) (behind i) (first i)

  -- The second half is written.
  back-half : (bits : ℕ) (pairs : List ℕ) → bits ≡ mask_l marks → pairs ≡ drop 8 block ++ drop 8 before
      → spread (lowest_bits 8 (bits / 256)) (drop 8 pairs) (take 8 pairs) ≡ spread (drop 8 marks) (drop 8 before) (drop 8 block)
  back-half bits pairs is pairs_are =
      let eight : length (drop 8 block) ≡ 8 = omega (arith, length-drop 8 block) in
      let behind : drop 8 pairs ≡ drop 8 before = ap (drop 8) pairs_are ∙ drop_at (drop 8 block) (drop 8 before) 8 eight in
      let first : take 8 pairs ≡ drop 8 block = ap (take 8) pairs_are ∙ take_at (drop 8 block) (drop 8 before) 8 eight in
      λ i. spread (back-bits marks bits sixteen is i) (behind i) (first i)

  -- What is written for up to sixteen bytes.
  pub whole-written : (start middle new pairs more : List ℕ) (at place full k m bits others counted : ℕ) → k ≤ 16 → length start ≡ at
      → bits ≡ mask_l marks → others ≡ mask_l marks → counted ≡ mask_l marks
      → pairs ≡ take 8 block ++ take 8 before → more ≡ drop 8 block ++ drop 8 before
      → take place middle ≡ start ++ spread (lowest_bits 8 (bits % 256)) (drop 8 pairs) (take 8 pairs)
      → take full new ≡ take place middle ++ spread (lowest_bits 8 (others / 256)) (drop 8 more) (take 8 more)
      → m ≡ at + (k + count_ones (counted % 2 ^ k))
      → take m new ≡ start ++ spread (take k marks) (take k before) (take k block)
  whole-written start middle new pairs more at place full k m bits others counted le size is also third pairs_are more_are one two place_is =
      let first = spread (take 8 marks) (take 8 before) (take 8 block) in
      let second = spread (drop 8 marks) (drop 8 before) (drop 8 block) in
      let eight : length (take 8 marks) ≡ 8 = length-take-le 8 marks (omega arith) in
      let joined : first ++ second ≡ spread marks before block =
      sym (spread-append (take 8 marks) (drop 8 marks) (take 8 before) (drop 8 before) (take 8 block) (drop 8 block)
      (length-take-le 8 before (omega arith) ∙ sym eight) (length-take-le 8 block (omega arith) ∙ sym eight))
      ∙ (λ i. spread (take-append-drop 8 marks i) (take-append-drop 8 before i) (take-append-drop 8 block i)) in
      let written : take full new ≡ start ++ spread marks before block =
      two
      ∙ ap₂ (λ x y. x ++ y) (one ∙ ap (λ l. start ++ l) (front-half bits pairs is pairs_are)) (back-half others more also more_are)
      ∙ append_assoc start first second
      ∙ ap (λ l. start ++ l) joined in
      let ones : counted % 2 ^ k ≡ mask_l (take k marks) = ap (λ n. n % 2 ^ k) third ∙ first-bits marks k (omega arith) in
      cut start new marks before block full k m (long_before ∙ sym sixteen) (long ∙ sym sixteen) (omega arith) written
      (place_is ∙ ap₂ (λ x y. x + (k + count_ones y)) (sym size) ones)
