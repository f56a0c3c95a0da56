-- How far the scans of a text have come.
use Rattle.std.proofs.Common.{◌≡◌, ℕ, ◌<◌, ◌≤◌, ◌+◌, ◌-◌, ◌==◌, Bool, true, false, List, [], ◌∷◌, ◌++◌, length, take, drop, get_or, refl, ap, sym, ◌∙◌, append_assoc, append-nil, subst, inl, inr, arith}
use Rattle.std.proofs.lemmas.Bool.{cond-false, cases_lt}
use Rattle.std.proofs.lemmas.List.{take_more, take_all, drop_more, drop_all}
use Rattle.properties_format.specs.Text.{backslash, is_blank}
use Rattle.properties_format.specs.Split.{ends}
use Rattle.properties_format.specs.Computed.Split.{without_trailing_blanks, unless_last_blank, with_front, ends_key, cut_key}
use Rattle.properties_format.proofs.Split.Blanks.{without_trailing_blanks-only}
use Rattle.properties_format.proofs.Split.Keys.{with_text}

-- ---- blanks at the end

trailing-blank : (y : List ℕ) (c : ℕ) → is_blank c ≡ true → without_trailing_blanks (y ++ c ∷ []) ≡ without_trailing_blanks y
trailing-blank [] c b = rw b refl
trailing-blank (d ∷ y) c b = ap (unless_last_blank d) (trailing-blank y c b)

ends-last : (y : List ℕ) (c : ℕ) → ends is_blank (y ++ c ∷ []) ≡ is_blank c
ends-last [] c = refl
ends-last (d ∷ []) c = refl
ends-last (d ∷ e ∷ y) c = ends-last (e ∷ y) c

-- The last character of a beginning of the text.
pub take-last : (xs : List ℕ) (e : ℕ) → 0 < e → e ≤ length xs → take e xs ≡ take (e - 1) xs ++ get_or xs (e - 1) 0 ∷ []
take-last xs e p h = ap (λ n. take n xs) (let k : e ≡ e - 1 + 1 = omega arith in k) ∙ take_more xs (e - 1) 0 (omega arith)

-- A blank at the end is left out.
pub trailing_more : (xs : List ℕ) (e : ℕ) → 0 < e → e ≤ length xs → is_blank (get_or xs (e - 1) 0) ≡ true
    → without_trailing_blanks (take (e - 1) xs) ≡ without_trailing_blanks (take e xs)
trailing_more xs e p h b = sym (ap without_trailing_blanks (take-last xs e p h) ∙ trailing-blank (take (e - 1) xs) (get_or xs (e - 1) 0) b)

full-last : (y : List ℕ) → ends is_blank y ≡ false → without_trailing_blanks y ≡ y
full-last y e = ap without_trailing_blanks (sym (append-nil y)) ∙ without_trailing_blanks-only y [] tt e

-- Another character at the end stays.
pub trailing_stop : (xs : List ℕ) (e : ℕ) → 0 < e → e ≤ length xs → is_blank (get_or xs (e - 1) 0) ≡ false → without_trailing_blanks (take e xs) ≡ take e xs
trailing_stop xs e p h b = full-last (take e xs) (ap (ends is_blank) (take-last xs e p h) ∙ ends-last (take (e - 1) xs) (get_or xs (e - 1) 0) ∙ b)

-- ---- keys

-- The key and the rest are those of what follows, with the characters that were passed at the front of the key.
abbrev pub IsCutSoFar : List ℕ → ℕ → Bool → Type 0
IsCutSoFar xs i is_escaped = cut_key xs false ≡ with_text (take i xs) (cut_key (drop i xs) is_escaped)

-- The key takes one more character.
pub cut-more : (xs : List ℕ) (i : ℕ) (was now : Bool) → i < length xs
    → ((cs : List ℕ) → cut_key (get_or xs i 0 ∷ cs) was ≡ with_front (get_or xs i 0) (cut_key cs now)) → IsCutSoFar xs i was → IsCutSoFar xs (i + 1) now
cut-more xs i was now h step k = rw (take_more xs i 0 h, append_assoc) (rw (drop_more xs i 0 h, step (drop (i + 1) xs)) at k)

pub cut-escaped : (xs : List ℕ) (i : ℕ) → i < length xs → IsCutSoFar xs i true → IsCutSoFar xs (i + 1) false
cut-escaped xs i h = cut-more xs i true false h (λ cs. refl)

pub cut-backslash : (xs : List ℕ) (i : ℕ) → i < length xs → get_or xs i 0 ≡ backslash → IsCutSoFar xs i false → IsCutSoFar xs (i + 1) true
cut-backslash xs i h e = cut-more xs i false true h (λ cs. rw e refl)

-- A backslash takes the character after it, if there is one.
pub cut-pair : (xs : List ℕ) (i : ℕ) → i < length xs → get_or xs i 0 ≡ backslash → IsCutSoFar xs i false → IsCutSoFar xs (i + 2) false
cut-pair xs i h e k =
    let opened = cut-backslash xs i h e k in
    elim (cases_lt (i + 1) (length xs)) [
      | inl l ↦ subst (λ n. IsCutSoFar xs n false) (let two : i + 1 + 1 ≡ i + 2 = omega arith in two) (cut-escaped xs (i + 1) l opened)
      | inr l ↦
          let past : length xs ≤ i + 2 = omega (arith, l) in
          rw (drop_all (i + 2) xs past, take_all (i + 2) xs past) (rw (drop_all (i + 1) xs l, take_all (i + 1) xs l) at opened)
    ]

pub cut-plain : (xs : List ℕ) (i : ℕ) → i < length xs → (get_or xs i 0 == backslash) ≡ false → ends_key (get_or xs i 0) ≡ false
    → IsCutSoFar xs i false → IsCutSoFar xs (i + 1) false
cut-plain xs i h b k = cut-more xs i false false h (λ cs. cond-false (get_or xs i 0 == backslash) _ _ b ∙ cond-false (ends_key (get_or xs i 0)) _ _ k)
