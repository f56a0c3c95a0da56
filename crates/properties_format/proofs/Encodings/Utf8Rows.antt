-- The rows of well-formed sequences: the row of a first byte, and bytes that fit its ranges.
use Rattle.std.proofs.Common.{◌≡◌, ℕ, suc, ◌<◌, ◌≤◌, ◌&&◌, ◌⊎◌, Bool, true, false, nat_le, List, [], ◌∷◌, ◌++◌, length, Some, refl, sym, ap, ◌∙◌, inl, inr, arith}
use Rattle.std.proofs.lemmas.Bool.{and_parts, and_from, leb-true, le-leb, both_ways, false_from_ne_true, cases_Bool, cond-true, cond-false}
use Rattle.std.proofs.lemmas.Option.{none-some, same_Some}
use Rattle.properties_format.specs.Utf8.{Range, well_formed_rows, tail, IsIn, FitsRow, FitsSome}
use Rattle.properties_format.specs.Computed.Encoding.{is_in, ranges_after, fitting}

-- a byte that passes the test is in the range
pub in-range : (r : Range) (b : ℕ) → is_in r b ≡ true → IsIn r b
in-range r b h = let k = and_parts (nat_le r.least b) (nat_le b r.most) h in (leb-true r.least b k.0, leb-true b r.most k.1)

-- A byte in the range passes the test.
pub is_in-true : (r : Range) (b : ℕ) → IsIn r b → is_in r b ≡ true
is_in-true r b h = and_from (nat_le r.least b) (nat_le b r.most) (le-leb r.least b h.0) (le-leb b r.most h.1)

-- A byte that isn't in the range fails the test.
pub is_in-false : (r : Range) (b : ℕ) → (IsIn r b → ⊥) → is_in r b ≡ false
is_in-false r b h = false_from_ne_true (is_in r b) (λ k. h (in-range r b k))

-- ---- Bytes that fit a beginning of the ranges.

abbrev pub FitsFront : List Range → List ℕ → Type 0
FitsFront rs [] = Unit {0}
FitsFront [] (b ∷ bs) = ⊥
FitsFront (r ∷ rs) (b ∷ bs) = IsIn r b × FitsFront rs bs

-- The next byte of the rest doesn't fit, or there is none.
abbrev pub Breaks : List Range → List ℕ → List ℕ → Type 0
Breaks rs bs [] = Unit {0}
Breaks rs bs (next ∷ rest) = ¬ FitsFront rs (bs ++ next ∷ [])

-- whether no range is empty
abbrev pub are_filled : List Range → Bool
are_filled [] = true
are_filled (r ∷ rs) = nat_le r.least r.most && are_filled rs

-- The front of bytes that fit a row fits a beginning of the row.
pub front-of_row : (rs : List Range) (bs more : List ℕ) → FitsRow rs (bs ++ more) → FitsFront rs bs
front-of_row rs [] more h = tt
front-of_row [] (b ∷ bs) more h = h
front-of_row (r ∷ rs) (b ∷ bs) more h = (h.0, front-of_row rs bs more h.1)

-- Bytes that fit a row are as many as its ranges.
pub length-row : (rs : List Range) (bs : List ℕ) → FitsRow rs bs → length bs ≡ length rs
length-row [] [] h = refl
length-row (r ∷ rs) (b ∷ bs) h = ap suc (length-row rs bs h.1)
length-row rs bs h = absurd h

-- Bytes that fit a row together with more bytes are fewer than its ranges.
pub shorter-than_row : (rs : List Range) (bs : List ℕ) (next : ℕ) (more : List ℕ) → FitsRow rs (bs ++ next ∷ more) → length bs < length rs
shorter-than_row [] [] next more h = absurd h
shorter-than_row [] (b ∷ bs) next more h = absurd h
shorter-than_row (r ∷ rs) [] next more h = omega arith
shorter-than_row (r ∷ rs) (b ∷ bs) next more h = let k = shorter-than_row rs bs next more h.1 in omega arith

-- Bytes that fit a beginning can be completed to fit the row.
pub row-of_front : (rs : List Range) (bs : List ℕ) → are_filled rs ≡ true → FitsFront rs bs → (more : List ℕ) × FitsRow rs (bs ++ more)
row-of_front [] [] filled h = ([], tt)
row-of_front [] (b ∷ bs) filled h = absurd h
row-of_front (r ∷ rs) [] filled h =
    let k = and_parts (nat_le r.least r.most) (are_filled rs) filled in
    let m = row-of_front rs [] k.1 tt in
    let l : r.least ≤ r.most = leb-true r.least r.most k.0 in
    (r.least ∷ m.0, ((omega arith, l), m.1))
row-of_front (r ∷ rs) (b ∷ bs) filled h =
    let k = and_parts (nat_le r.least r.most) (are_filled rs) filled in
    grind (arith, row-of_front rs bs k.1 h.1)

-- Bytes that fit a beginning and are fewer than the ranges can be completed with at least one byte.
pub longer-of_front : (rs : List Range) (bs : List ℕ) → are_filled rs ≡ true → FitsFront rs bs → length bs < length rs
    → (next : ℕ) × (more : List ℕ) × FitsRow rs (bs ++ next ∷ more)
longer-of_front [] [] filled h short = absurd (omega arith)
longer-of_front [] (b ∷ bs) filled h short = absurd h
longer-of_front (r ∷ rs) [] filled h short =
    let k = and_parts (nat_le r.least r.most) (are_filled rs) filled in
    let m = row-of_front rs [] k.1 tt in
    let l : r.least ≤ r.most = leb-true r.least r.most k.0 in
    (r.least, m.0, ((omega arith, l), m.1))
longer-of_front (r ∷ rs) (b ∷ bs) filled h short =
    let k = and_parts (nat_le r.least r.most) (are_filled rs) filled in
    grind (arith, longer-of_front rs bs k.1 h.1 (omega arith))

-- ---- The longest front that fits.

-- Bytes that fit the row are the longest front that fits, whatever follows.
pub fitting-row : (rs : List Range) (bs rest : List ℕ) → FitsRow rs bs → fitting rs (bs ++ rest) ≡ bs
fitting-row [] [] rest h = refl
fitting-row (r ∷ rs) (b ∷ bs) rest h = rw (is_in-true r b h.0) (ap (λ v. b ∷ v) (fitting-row rs bs rest h.1))
fitting-row rs bs rest h = absurd h

-- If the first byte doesn't fit, the longest front that fits is empty.
fitting-none : (rs : List Range) (rest : List ℕ) → Breaks rs [] rest → fitting rs rest ≡ []
fitting-none (r ∷ rs) (b ∷ rest) h = cond-false (is_in r b) (b ∷ fitting rs rest) [] (is_in-false r b (λ k. h (k, tt)))
fitting-none rs rest h = refl

-- If the next byte doesn't fit after some bytes, it doesn't fit after them without the first byte and its range.
breaks-tail : (r : Range) (rs : List Range) (b : ℕ) (bs rest : List ℕ) → IsIn r b → Breaks (r ∷ rs) (b ∷ bs) rest → Breaks rs bs rest
breaks-tail r rs b bs rest h k = grind (arith)

-- Bytes that fit a beginning, before a byte that doesn't fit, are the longest front that fits.
pub fitting-broken : (rs : List Range) (bs rest : List ℕ) → FitsFront rs bs → Breaks rs bs rest → fitting rs (bs ++ rest) ≡ bs
fitting-broken rs [] rest h k = fitting-none rs rest k
fitting-broken [] (b ∷ bs) rest h k = absurd h
fitting-broken (r ∷ rs) (b ∷ bs) rest h k = grind (arith, is_in-true, fitting-broken rs bs rest h.1 (breaks-tail r rs b bs rest h.0 k), breaks-tail)

-- the bytes of d that fit, and the rest: all ranges are used, or the next byte doesn't fit
abbrev pub Fitted : List Range → List ℕ → List ℕ → Type 0
Fitted rs d bs = (rest : List ℕ) × (d ≡ bs ++ rest) × (FitsRow rs bs ⊎ ((length bs < length rs) × FitsFront rs bs × Breaks rs bs rest))

-- One more byte at the front, and one more range.
fitted-more : (r : Range) (rs : List Range) (b : ℕ) (d bs : List ℕ) → IsIn r b → Fitted rs d bs → Fitted (r ∷ rs) (b ∷ d) (b ∷ bs)
fitted-more r rs b d bs h1 h2 = grind (arith)

-- The computed bytes are the ones that fit.
pub fitting-fits : (rs : List Range) (d : List ℕ) → Fitted rs d (fitting rs d)
fitting-fits [] d = (d, refl, inl tt)
fitting-fits (r ∷ rs) [] = ([], refl, inr (omega arith, tt, tt))
fitting-fits (r ∷ rs) (b ∷ d) = elim (cases_Bool (is_in r b)) [
  | inl h ↦ rw h (fitted-more r rs b d (fitting rs d) (in-range r b h) (fitting-fits rs d))
  | inr h ↦ rw h (b ∷ d, refl, inr (omega arith, tt, λ k. both_ways (is_in r b) h (is_in-true r b k.0)))
]

-- ---- The row of a first byte.

-- each row has a first byte, above those of the rows before it
abbrev pub are_ascending : ℕ → List (List Range) → Bool
are_ascending low [] = true
are_ascending low ([] ∷ more) = false
are_ascending low ((r ∷ rs) ∷ more) = (nat_le low r.least && nat_le r.least r.most) && (are_filled rs && are_ascending (suc r.most) more)

record Ascending (low : ℕ) (r : Range) (rs : List Range) (more : List (List Range)) : Type 0 where
  low_least : low ≤ r.least
  least_most : r.least ≤ r.most
  filled : are_filled rs ≡ true
  others : are_ascending (suc r.most) more ≡ true

-- The test of all rows, divided into the first row and the others.
ascending-parts : (low : ℕ) (r : Range) (rs : List Range) (more : List (List Range)) → are_ascending low ((r ∷ rs) ∷ more) ≡ true → Ascending low r rs more
ascending-parts low r rs more h = grind (arith)

-- No sequence begins with a byte below those of the rows.
above : (low : ℕ) (table : List (List Range)) (b : ℕ) (bs : List ℕ) → are_ascending low table ≡ true → FitsSome table (b ∷ bs) → low ≤ b
above low [] b bs h k = absurd k
above low ([] ∷ more) b bs h k = absurd (cc)
above low ((r ∷ rs) ∷ more) b bs h (inl k) = let a = ascending-parts low r rs more h in omega arith
above low ((r ∷ rs) ∷ more) b bs h (inr k) =
    let a = ascending-parts low r rs more h in
    let l = above (suc r.most) more b bs a.others k in omega arith

-- A sequence fits the row of its first byte.
row-of : (low : ℕ) (table : List (List Range)) (b : ℕ) (bs : List ℕ) → are_ascending low table ≡ true → FitsSome table (b ∷ bs)
    → (rs : List Range) × (ranges_after table b ≡ Some rs) × FitsRow rs bs
row-of low [] b bs h k = absurd k
row-of low ([] ∷ more) b bs h k = absurd (cc)
row-of low ((r ∷ rs) ∷ more) b bs h (inl k) = (rs, cond-true (is_in r b) (Some rs) (ranges_after more b) (is_in-true r b k.0), k.1)
row-of low ((r ∷ rs) ∷ more) b bs h (inr k) =
    let a = ascending-parts low r rs more h in
    grind (arith, above, row-of (suc r.most) more b bs a.others k, cond-false, is_in-false)

-- Bytes that fit the ranges in the row of a first byte make a sequence with it, and none of the ranges is empty.
row-fits : (low : ℕ) (table : List (List Range)) (b : ℕ) (rs : List Range) → are_ascending low table ≡ true → ranges_after table b ≡ Some rs
    → (are_filled rs ≡ true) × ((bs : List ℕ) → FitsRow rs bs → FitsSome table (b ∷ bs))
row-fits low [] b rs h k = absurd (none-some rs k)
row-fits low ([] ∷ more) b rs h k = absurd (cc)
row-fits low ((r ∷ qs) ∷ more) b rs h k = elim (cases_Bool (is_in r b)) [
  | inl m ↦ grind (arith, ascending-parts, same_Some, cond-true, in-range)
  | inr m ↦
      let a = ascending-parts low r qs more h in
      let f = row-fits (suc r.most) more b rs a.others (sym (cond-false (is_in r b) (Some qs) (ranges_after more b) m) ∙ k) in
      (f.0, λ bs q. inr (f.1 bs q))
]

-- A well-formed sequence fits the row of its first byte.
pub sequence-row : (b : ℕ) (bs : List ℕ) → FitsSome well_formed_rows (b ∷ bs) → (rs : List Range) × (ranges_after well_formed_rows b ≡ Some rs) × FitsRow rs bs
sequence-row b bs h = row-of 0 well_formed_rows b bs refl h

-- Bytes that fit that row make a well-formed sequence with the first byte, and none of its ranges is empty.
pub row-sequence : (b : ℕ) (rs : List Range) → ranges_after well_formed_rows b ≡ Some rs
    → (are_filled rs ≡ true) × ((bs : List ℕ) → FitsRow rs bs → FitsSome well_formed_rows (b ∷ bs))
row-sequence b rs h = row-fits 0 well_formed_rows b rs refl h

-- If each row has a first byte, an empty list fits none.
no-empty : (low : ℕ) (table : List (List Range)) → are_ascending low table ≡ true → FitsSome table [] → ⊥
no-empty low [] h k = k
no-empty low ([] ∷ more) h k = cc
no-empty low ((r ∷ rs) ∷ more) h (inl k) = k
no-empty low ((r ∷ rs) ∷ more) h (inr k) = no-empty (suc r.most) more (ascending-parts low r rs more h).others k

-- A sequence isn't empty.
pub sequence-nonempty : FitsSome well_formed_rows [] → ⊥
sequence-nonempty h = no-empty 0 well_formed_rows refl h

-- ---- What is true of each row is true of the ranges in the row of a first byte.

abbrev pub each_row : (List Range → Bool) → List (List Range) → Bool
each_row test [] = true
each_row test ([] ∷ more) = each_row test more
each_row test ((r ∷ rs) ∷ more) = test rs && each_row test more

-- If each row passes the test, so do the ranges in the row of a first byte.
row-passes : (test : List Range → Bool) (table : List (List Range)) (b : ℕ) (rs : List Range) → each_row test table ≡ true
    → ranges_after table b ≡ Some rs → test rs ≡ true
row-passes test [] b rs h k = absurd (none-some rs k)
row-passes test ([] ∷ more) b rs h k = row-passes test more b rs h k
row-passes test ((r ∷ qs) ∷ more) b rs h k = elim (cases_Bool (is_in r b)) [
  | inl m ↦ grind (arith, same_Some, cond-true, and_parts)
  | inr m ↦ row-passes test more b rs (and_parts (test qs) (each_row test more) h).1 (sym (cond-false (is_in r b) (Some qs) (ranges_after more b) m) ∙ k)
]

-- whether each range lies within that of the tail bytes
abbrev are_tails : List Range → Bool
are_tails [] = true
are_tails (r ∷ rs) = (nat_le 0x80 r.least && nat_le r.most 0xbf) && are_tails rs

-- If each range lies within that of the tail bytes, a byte that fits is a tail byte.
front-tail : (rs : List Range) (bs : List ℕ) (c : ℕ) → are_tails rs ≡ true → FitsFront rs (bs ++ c ∷ []) → IsIn tail c
front-tail [] [] c t h = absurd h
front-tail [] (b ∷ bs) c t h = absurd h
front-tail (r ∷ rs) [] c t h = grind (arith)
front-tail (r ∷ rs) (b ∷ bs) c t h = front-tail rs bs c (and_parts (nat_le 0x80 r.least && nat_le r.most 0xbf) (are_tails rs) t).1 h.1

-- A byte after the first is a tail byte.
pub next-tail : (b : ℕ) (rs : List Range) (bs : List ℕ) (c : ℕ) → ranges_after well_formed_rows b ≡ Some rs → FitsFront rs (bs ++ c ∷ []) → IsIn tail c
next-tail b rs bs c e h = front-tail rs bs c (row-passes are_tails well_formed_rows b rs refl e) h
