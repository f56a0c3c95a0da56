-- Blocks of UTF-8: from their bits to the sequences that they are made of.
use Rattle.std.proofs.Common.{◌≡◌, ◌+◌, ◌*◌, ◌<◌, ◌≤◌, ◌||◌, ◌&&◌, ℕ, zero, suc, Bool, true, false, cond, nat_le, List, [], ◌∷◌, ◌++◌, length, map, refl, sym, ap, subst, inl, inr, ◌∙◌, arith}
use Rattle.std.specs.Simd.Lanes.{mask_l}
use Rattle.std.proofs.lemmas.Bool.{cases_Bool, or_cases, and_parts, leb-true, leb-false, le-leb, lt-leb}
use Rattle.byte_blocks.specs.Classes.{is_non_ascii}
use Rattle.properties_format.specs.Utf8.{IsWellFormed, IsWellFormedText}
use Rattle.properties_text.specs.Private.Tails.{IsTail, BeginsBefore, OwesTails, ones}

-- ---- sequences

pub GoesOn-append : (n m k : ℕ) (xs ys : List ℕ) → OwesTails n xs m → OwesTails m ys k → OwesTails n (xs ++ ys) k
GoesOn-append n m k [] ys g h = subst (λ i. OwesTails i ys k) (sym g) h
GoesOn-append zero m k (b ∷ xs) ys (i, s, g) h = (i, s, GoesOn-append i m k xs ys g h)
GoesOn-append (suc n) m k (b ∷ xs) ys (t, g) h = (t, GoesOn-append n m k xs ys g h)

abbrev AreTails : ℕ → List ℕ → Type 0
AreTails zero [] = Unit {0}
AreTails zero (t ∷ ts) = ⊥
AreTails (suc n) [] = ⊥
AreTails (suc n) (t ∷ ts) = IsTail t × AreTails n ts

-- A first byte and the tails that complete it are well-formed.
sequence : (n b : ℕ) (ts : List ℕ) → BeginsBefore n b → AreTails n ts → IsWellFormed (b ∷ ts)
sequence zero b [] s h = inl ((omega arith, s), tt)
sequence zero b (t ∷ ts) s h = absurd h
sequence (suc n) b [] s h = absurd h
sequence (suc zero) b (t ∷ []) s (x, h) = inr (inl (s, (x, tt)))
sequence (suc zero) b (t ∷ u ∷ ts) s (x, h) = absurd h
sequence (suc (suc n)) b (t ∷ []) s (x, h) = absurd h
sequence (suc (suc zero)) b (t ∷ u ∷ []) s (x, (y, h)) = elim s [
  | inl l ↦ inr (inr (inr (inl (l, (x, (y, tt))))))
  | inr r ↦ inr (inr (inr (inr (inr (inl (r, (x, (y, tt))))))))
]
sequence (suc (suc zero)) b (t ∷ u ∷ v ∷ ts) s (x, (y, h)) = absurd h
sequence (suc (suc (suc n))) b (t ∷ u ∷ []) s (x, (y, h)) = absurd h
sequence (suc (suc (suc zero))) b (t ∷ u ∷ v ∷ []) s (x, (y, (z, h))) = inr (inr (inr (inr (inr (inr (inr (inl (s, (x, (y, (z, tt)))))))))))
sequence (suc (suc (suc zero))) b (t ∷ u ∷ v ∷ w ∷ ts) s (x, (y, (z, h))) = absurd h
sequence (suc (suc (suc (suc n)))) b (t ∷ u ∷ v ∷ ts) s h = absurd s

-- n tails, and then well-formed text.
abbrev Completed : ℕ → List ℕ → Type 0
Completed n bs = (ts : List ℕ) × (rest : List ℕ) × (bs ≡ ts ++ rest) × AreTails n ts × IsWellFormedText rest

longer : (n b : ℕ) (bs : List ℕ) → BeginsBefore n b → Completed n bs → IsWellFormedText (b ∷ bs)
longer n b bs s (ts, rest, e, h, w) = ((b ∷ ts) ∷ w.0, (rest, ap (λ v. b ∷ v) e, sequence n b ts s h, w.1))

completed : (n : ℕ) (bs : List ℕ) → OwesTails n bs 0 → Completed n bs
completed zero [] g = ([], [], refl, tt, ([], refl))
completed (suc n) [] g = absurd (omega (arith, g))
completed zero (b ∷ bs) (n, s, g) = ([], b ∷ bs, refl, tt, longer n b bs s (completed n bs g))
completed (suc n) (b ∷ bs) (t, g) = let (ts, rest, e, h, w) = completed n bs g in (b ∷ ts, rest, ap (λ v. b ∷ v) e, (t, h), w)

-- Whole sequences are well-formed.
pub whole-sequences : (bs : List ℕ) → OwesTails 0 bs 0 → IsWellFormedText bs
whole-sequences [] g = ([], refl)
whole-sequences (b ∷ bs) (n, s, g) = longer n b bs s (completed n bs g)

-- ---- the kinds of bytes

abbrev bit : Bool → ℕ
bit is_set = cond is_set 1 0

-- A byte of one kind, and the bits that classes have of it.
data Kind (b p t a c d : ℕ) : Type 0 where
  ascii : p ≡ 0 → t + a + c + d ≡ 0 → BeginsBefore 0 b → Kind b p t a c d
  later : p ≡ 1 → t ≡ 1 → a + c + d ≡ 0 → IsTail b → Kind b p t a c d
  of_two : p ≡ 1 → a ≡ 1 → t + c + d ≡ 0 → BeginsBefore 1 b → Kind b p t a c d
  of_three : p ≡ 1 → c ≡ 1 → t + a + d ≡ 0 → BeginsBefore 2 b → Kind b p t a c d
  of_four : p ≡ 1 → d ≡ 1 → t + a + c ≡ 0 → BeginsBefore 3 b → Kind b p t a c d
  other : p ≡ 1 → t + a + c + d ≡ 0 → Kind b p t a c d

-- ---- bits of many bytes

abbrev doubled : ℕ → ℕ → ℕ
doubled zero q = q
doubled (suc n) q = 2 * doubled n q

abbrev Next : (b n P T A C D W : ℕ) → Type 0
Next b n P T A C D W = (i : ℕ) × (P ≡ T + A + C + D) × (ones i + 2 * A + 6 * C + 14 * D ≡ T + W) × ((bs : List ℕ) (m : ℕ) → OwesTails i bs m → OwesTails n (b ∷ bs) m)

-- What the bits say of the first byte, and of the others.
step : (b p t a c d n P T A C D W : ℕ) → Kind b p t a c d → p + 2 * P ≡ (t + 2 * T) + (a + 2 * A) + (c + 2 * C) + (d + 2 * D)
    → ones n + 2 * (a + 2 * A) + 6 * (c + 2 * C) + 14 * (d + 2 * D) ≡ (t + 2 * T) + 2 * W → Next b n P T A C D W
step b p t a c d zero P T A C D W (ascii e f s) one two = (0, omega (arith, e, f, one), omega (arith, e, f, two), λ bs m g. (0, s, g))
step b p t a c d (suc n) P T A C D W (ascii e f s) one two = absurd (omega (arith, f, two))
step b p t a c d zero P T A C D W (later e f h s) one two = absurd (omega (arith, f, h, two))
step b p t a c d (suc n) P T A C D W (later e f h s) one two = (n, omega (arith, e, f, h, one), omega (arith, f, h, two), λ bs m g. (s, g))
step b p t a c d zero P T A C D W (of_two e f h s) one two = (1, omega (arith, e, f, h, one), omega (arith, f, h, two), λ bs m g. (1, s, g))
step b p t a c d (suc n) P T A C D W (of_two e f h s) one two = absurd (omega (arith, f, h, two))
step b p t a c d zero P T A C D W (of_three e f h s) one two = (2, omega (arith, e, f, h, one), omega (arith, f, h, two), λ bs m g. (2, s, g))
step b p t a c d (suc n) P T A C D W (of_three e f h s) one two = absurd (omega (arith, f, h, two))
step b p t a c d zero P T A C D W (of_four e f h s) one two = (3, omega (arith, e, f, h, one), omega (arith, f, h, two), λ bs m g. (3, s, g))
step b p t a c d (suc n) P T A C D W (of_four e f h s) one two = absurd (omega (arith, f, h, two))
step b p t a c d n P T A C D W (other e f) one two = absurd (omega (arith, e, f, one))

module _ (past tail two three four : ℕ → Bool) (kind : (b : ℕ) → Kind b (bit (past b)) (bit (tail b)) (bit (two b)) (bit (three b)) (bit (four b))) where
  sums-on : (bs : List ℕ) (n q : ℕ) → mask_l (map past bs) ≡ mask_l (map tail bs) + mask_l (map two bs) + mask_l (map three bs) + mask_l (map four bs)
      → ones n + 2 * mask_l (map two bs) + 6 * mask_l (map three bs) + 14 * mask_l (map four bs) ≡ mask_l (map tail bs) + doubled (length bs) q
      → (m : ℕ) × (q ≡ ones m) × OwesTails n bs m
  sums-on [] n q sum carry = (n, omega (arith, carry), refl)
  sums-on (b ∷ bs) n q sum carry =
      let s = step b (bit (past b)) (bit (tail b)) (bit (two b)) (bit (three b)) (bit (four b)) n (mask_l (map past bs)) (mask_l (map tail bs))
      (mask_l (map two bs)) (mask_l (map three bs)) (mask_l (map four bs)) (doubled (length bs) q) (kind b) sum carry in
      let r = sums-on bs s.0 q s.1 s.2 in
      (r.0, r.1, s.3 bs r.0 r.2)

-- ---- the classes

abbrev pub within : ℕ → ℕ → ℕ → Bool
within first last b = nat_le first b && nat_le b last

abbrev pub begins_three : ℕ → Bool
begins_three b = within 0xe1 0xec b || within 0xee 0xef b

in-range : (first last b : ℕ) → within first last b ≡ true → (first ≤ b) × (b ≤ last)
in-range first last b h =
    let both = and_parts (nat_le first b) (nat_le b last) h in
    (leb-true first b both.0, leb-true b last both.1)

below : (first last b : ℕ) → b < first → bit (within first last b) ≡ 0
below first last b h = ap (λ v. bit (v && nat_le b last)) (lt-leb first b h)

none-of : (x y : Bool) → bit x ≡ 0 → bit y ≡ 0 → bit (x || y) ≡ 0
none-of true y h k = absurd (omega (arith, h))
none-of false y h k = k

below-three : (b : ℕ) → b < 0xe1 → bit (begins_three b) ≡ 0
below-three b h = none-of (within 0xe1 0xec b) (within 0xee 0xef b) (below 0xe1 0xec b h) (below 0xee 0xef b (omega (arith, h)))

three-range : (b : ℕ) → begins_three b ≡ true → BeginsBefore 2 b
three-range b h = elim (or_cases (within 0xe1 0xec b) (within 0xee 0xef b) h) [
  | inl l ↦ inl (in-range 0xe1 0xec b l)
  | inr r ↦ inr (in-range 0xee 0xef b r)
]

at-least-e1 : (b : ℕ) → BeginsBefore 2 b → (0xe1 ≤ b) × (b ≤ 0xef)
at-least-e1 b (inl h) = (h.0, omega (arith, h.1))
at-least-e1 b (inr h) = (omega (arith, h.0), h.1)

past-bit : (b : ℕ) → 0x80 ≤ b → bit (is_non_ascii b) ≡ 1
past-bit b h = ap bit (le-leb 0x80 b h)

kind : (b : ℕ) → Kind b (bit (is_non_ascii b)) (bit (within 0x80 0xbf b)) (bit (within 0xc2 0xdf b)) (bit (begins_three b)) (bit (within 0xf1 0xf3 b))
kind b = elim (cases_Bool (within 0x80 0xbf b)) [
  | inl t ↦
      let r = in-range 0x80 0xbf b t in
      let a = below 0xc2 0xdf b (omega (arith, r.1)) in
      let c = below-three b (omega (arith, r.1)) in
      let d = below 0xf1 0xf3 b (omega (arith, r.1)) in
      later (past-bit b r.0) (ap bit t) (omega (arith, a, c, d)) r
  | inr t ↦
      let no_tail = ap bit t in
      elim (cases_Bool (within 0xc2 0xdf b)) [
        | inl a ↦
            let r = in-range 0xc2 0xdf b a in
            let c = below-three b (omega (arith, r.1)) in
            let d = below 0xf1 0xf3 b (omega (arith, r.1)) in
            of_two (past-bit b (omega (arith, r.0))) (ap bit a) (omega (arith, no_tail, c, d)) r
        | inr a ↦
            let no_two = ap bit a in
            elim (cases_Bool (begins_three b)) [
              | inl c ↦
                  let s = three-range b c in
                  let r = at-least-e1 b s in
                  let d = below 0xf1 0xf3 b (omega (arith, r.1)) in
                  of_three (past-bit b (omega (arith, r.0))) (ap bit c) (omega (arith, no_tail, no_two, d)) s
              | inr c ↦
                  let no_three = ap bit c in
                  elim (cases_Bool (within 0xf1 0xf3 b)) [
                    | inl d ↦
                        let r = in-range 0xf1 0xf3 b d in
                        of_four (past-bit b (omega (arith, r.0))) (ap bit d) (omega (arith, no_tail, no_two, no_three)) r
                    | inr d ↦
                        let none : bit (within 0x80 0xbf b) + bit (within 0xc2 0xdf b) + bit (begins_three b) + bit (within 0xf1 0xf3 b) ≡ 0 = omega
                        (arith, no_tail, no_two, no_three, ap bit d) in
                        elim (cases_Bool (is_non_ascii b)) [
                          | inl p ↦ other (ap bit p) none
                          | inr p ↦ let small = leb-false 0x80 b p in ascii (ap bit p) none (omega (arith, small))
                        ]
                  ]
            ]
      ]
]

-- ---- blocks

sixteen-doubled : (q : ℕ) → doubled 16 q ≡ 0x1_0000 * q
sixteen-doubled q =
    let e : doubled 16 q ≡ 2 * (2 * (2 * (2 * (2 * (2 * (2 * (2 * (2 * (2 * (2 * (2 * (2 * (2 * (2 * (2 * q))))))))))))))) = refl in
    omega (arith, e)

-- A block goes on as its bits say.
pub block-goes_on : (block : List ℕ) (n q : ℕ) → length block ≡ 16
    → mask_l (map is_non_ascii block) ≡ mask_l (map (within 0x80 0xbf) block) + mask_l (map (within 0xc2 0xdf) block) + mask_l (map begins_three block) +
    mask_l (map (within 0xf1 0xf3) block)
    → ones n + 2 * (mask_l (map (within 0xc2 0xdf) block) + 3 * mask_l (map begins_three block) + 7 * mask_l (map (within 0xf1 0xf3) block)) ≡ mask_l
    (map (within 0x80 0xbf) block) + 0x1_0000 * q → (m : ℕ) × (q ≡ ones m) × OwesTails n block m
block-goes_on block n q long sum carry =
    let size : doubled (length block) q ≡ 0x1_0000 * q = ap (λ k. doubled k q) long ∙ sixteen-doubled q in
    sums-on is_non_ascii (within 0x80 0xbf) (within 0xc2 0xdf) begins_three (within 0xf1 0xf3) kind block n q sum (omega (arith, carry, size))

-- ASCII goes on where nothing is missing.
ascii-on : (bs : List ℕ) → mask_l (map is_non_ascii bs) ≡ 0 → OwesTails 0 bs 0
ascii-on [] h = refl
ascii-on (b ∷ bs) h = by (is_non_ascii b) (mask_l (map is_non_ascii bs)) refl h (ascii-on bs)
  where
    by : (is_past : Bool) (n : ℕ) → is_non_ascii b ≡ is_past → cond is_past 1 0 + 2 * n ≡ 0 → (n ≡ 0 → OwesTails 0 bs 0) → OwesTails 0 (b ∷ bs) 0
    by true n e h g = absurd (omega (arith, h))
    by false n e h g = let small = leb-false 0x80 b e in (0, omega (arith, small), g (omega (arith, h)))

none-missing : (n : ℕ) → ones n ≡ 0 → n ≡ 0
none-missing zero h = refl
none-missing (suc n) h = absurd (omega (arith, h))

pub ascii-goes_on : (block : List ℕ) (wanted n : ℕ) → mask_l (map is_non_ascii block) + wanted ≡ 0 → wanted ≡ ones n
    → (m : ℕ) × (0 ≡ ones m) × OwesTails n block m
ascii-goes_on block wanted n none is =
    let start : n ≡ 0 = none-missing n (omega (arith, none, is)) in
    (0, refl, subst (λ k. OwesTails k block 0) (sym start) (ascii-on block (omega (arith, none))))

-- Where nothing is missing, all before is well-formed.
pub well_formed-here : (bs : List ℕ) (n : ℕ) → ones n ≡ 0 → OwesTails 0 bs n → IsWellFormedText bs
well_formed-here bs n none g = whole-sequences bs (subst (OwesTails 0 bs) (none-missing n none) g)
