-- Whether bytes are well-formed UTF-16, found unit by unit.
use Rattle.std.proofs.Common.{◌≡◌, ℕ, ◌-◌, ◌≤◌, Bool, true, false, List, [], ◌∷◌, ◌++◌, length, take, drop, get_or, refl, sym, ap, ◌∙◌, inl, inr, arith}
use Rattle.std.specs.Prelude.{◌⊎◌, ◌&&◌, not, if◌then◌else◌}
use Rattle.std.proofs.{Math.Bool.beq, lemmas.List.take_all, lemmas.Bool.cases_Bool}
use Rattle.properties_format.specs.Utf16.{is_high, is_low}
use Rattle.properties_format.proofs.Encodings.Utf16.{low-not_high}
use Rattle.properties_tables.specs.Lines.{AreCharacters, IsPlainUnit, IsSurrogatePair, IsWellFormedUnits}
use Rattle.properties_tables.specs.Private.Flawed.{are_paired}

-- a high surrogate isn't a low one
high-not_low : (u : ℕ) → is_high u ≡ true → is_low u ≡ false
high-not_low u h = elim (cases_Bool (is_low u)) [
  | inl k ↦ let other = low-not_high u k in absurd (cc)
  | inr k ↦ k
]

module _ (unit : ℕ → ℕ → ℕ) where
  -- characters are paired
  pub well_formed-paired : (bytes : List ℕ) (cs : List (List ℕ)) → AreCharacters unit bytes cs → are_paired unit false bytes ≡ true
  well_formed-paired bytes [] h = rw h refl
  well_formed-paired bytes (c ∷ cs) (rest, is, inl (a, b, same, high, low), others) = rw (is, same, low, high) (well_formed-paired rest cs others)
  well_formed-paired bytes (c ∷ cs) (rest, is, inr (a, b, d, f, same, high, low), others) =
      let first = high-not_low (unit a b) high in
      let second = low-not_high (unit d f) low in
      rw (is, same, first, high, low, second) (well_formed-paired rest cs others)

  -- what bytes are that are paired, after a high surrogate or not
  abbrev Paired : Bool → List ℕ → Type 0
  Paired false bytes = IsWellFormedUnits unit bytes
  Paired true bytes = (a b : ℕ) → is_high (unit a b) ≡ true → IsWellFormedUnits unit (a ∷ b ∷ bytes)

  one-more : (c rest : List ℕ) → IsPlainUnit unit c ⊎ IsSurrogatePair unit c → IsWellFormedUnits unit rest → IsWellFormedUnits unit (c ++ rest)
  one-more c rest is (cs, others) = (c ∷ cs, (rest, refl, is, others))

  paired-is : (after_high : Bool) (bytes : List ℕ) → are_paired unit after_high bytes ≡ true → Paired after_high bytes
  paired-is false [] h = ([], refl)
  paired-is true [] h = absurd (cc)
  paired-is after_high (a ∷ []) h = absurd (cc)
  paired-is false (a ∷ b ∷ bytes) h = elim (cases_Bool (is_low (unit a b))) [
    | inl low ↦ absurd (let none = rw low at h in cc)
    | inr low ↦ elim (cases_Bool (is_high (unit a b))) [
      | inl high ↦ paired-is true bytes (rw (low, high) at h) a b high
      | inr high ↦ one-more (a ∷ b ∷ []) bytes (inl (a, b, refl, high, low)) (paired-is false bytes (rw (low, high) at h))
    ]
  ]
  paired-is true (c ∷ d ∷ bytes) h = λ a b high. elim (cases_Bool (is_low (unit c d))) [
    | inl low ↦
        let other = low-not_high (unit c d) low in
        one-more (a ∷ b ∷ c ∷ d ∷ []) bytes (inr (a, b, c, d, refl, high, low)) (paired-is false bytes (rw (low, other) at h))
    | inr low ↦ absurd (let none = rw low at h in cc)
  ]

  -- bytes that are paired are characters
  pub paired-well_formed : (bytes : List ℕ) → are_paired unit false bytes ≡ true → IsWellFormedUnits unit bytes
  paired-well_formed bytes h = paired-is false bytes h

  -- one unit after another
  pub paired-more : (after_high : Bool) (bytes : List ℕ) (n : ℕ) (low high : Bool) → 2 ≤ length bytes → n ≡ unit (get_or bytes 0 0) (get_or bytes 1 0)
      → low ≡ is_low n → not (beq low after_high) ≡ false → high ≡ is_high n
      → are_paired unit after_high bytes ≡ are_paired unit high (take (length bytes - 2) (drop 2 bytes))
  paired-more after_high [] n low high len is is_low_ same is_high_ = absurd (omega (arith, len))
  paired-more after_high (a ∷ []) n low high len is is_low_ same is_high_ = absurd (omega (arith, len))
  paired-more after_high (a ∷ b ∷ bytes) n low high len is is_low_ same is_high_ =
      let rest : take (length (a ∷ b ∷ bytes) - 2) bytes ≡ bytes = take_all (length (a ∷ b ∷ bytes) - 2) bytes (omega arith) in
      let first : is_low (unit a b) ≡ low = sym (is_low_ ∙ ap is_low is) in
      let second : is_high (unit a b) ≡ high = sym (is_high_ ∙ ap is_high is) in
      rw (rest, first, second) (by low after_high same)
    where
      by : (x y : Bool) → not (beq x y) ≡ false → ((if x then y else not y) && are_paired unit high bytes) ≡ are_paired unit high bytes
      by true true k = refl
      by false false k = refl
      by true false k = absurd (cc)
      by false true k = absurd (cc)
