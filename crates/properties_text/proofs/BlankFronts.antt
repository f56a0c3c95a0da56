-- Blanks at the front of a text.
use Rattle.std.proofs.Common.{◌≡◌, ℕ, zero, suc, ◌+◌, ◌<◌, true, false, List, length, drop, get_or, refl, sym, ap, ◌∙◌, inl, inr, arith}
use Rattle.std.specs.Prelude.{Bool, not, Some}
use Rattle.std.proofs.lemmas.Bool.{cases_lt, cond-true, not-true, not_from_false, true_from_ne_false}
use Rattle.std.proofs.lemmas.List.{get_or_past, at_drop_more, drop_more, drop_all}
use Rattle.memchr.specs.Find.{Nowhere, Passes, IsFirstByte}
use Rattle.properties_format.specs.Text.{is_blank, without_leading_blanks}

-- whether a character isn't a blank
abbrev pub is_no_blank : ℕ → Bool
is_no_blank c = not (is_blank c)

-- An index at which a blank is found lies inside the text.
pub blank-inside : (xs : List ℕ) (i : ℕ) → is_blank (get_or xs i 0) ≡ true → i < length xs
blank-inside xs i h = elim (cases_lt i (length xs)) [
  | inl l ↦ l
  | inr l ↦ absurd (let none : is_blank (get_or xs i 0) ≡ false = ap is_blank (get_or_past xs i 0 l) in cc (h, none))
]

pub past-blank : (xs : List ℕ) (i : ℕ) → is_blank (get_or xs i 0) ≡ true → without_leading_blanks (drop (i + 1) xs) ≡ without_leading_blanks (drop i xs)
past-blank xs i h = sym (at_drop_more without_leading_blanks xs i 0 (blank-inside xs i h) ∙ cond-true (is_blank (get_or xs i 0)) _ _ h)

-- If the byte there isn't a blank, no more are skipped.
pub no-blank : (xs : List ℕ) (i : ℕ) → is_blank (get_or xs i 0) ≡ false → without_leading_blanks (drop i xs) ≡ drop i xs
no-blank xs i h = elim (cases_lt i (length xs)) [
  | inl l ↦ rw (drop_more xs i 0 l, h) refl
  | inr l ↦ rw (drop_all i xs l) refl
]

-- All of the blanks before an index are skipped.
pub past-blanks : (xs : List ℕ) (i : ℕ) → Nowhere (Passes is_no_blank xs) 0 i → without_leading_blanks (drop i xs) ≡ without_leading_blanks xs
past-blanks xs zero none = refl
past-blanks xs (suc i) none =
    let blank = true_from_ne_false (is_blank (get_or xs i 0)) (λ f. none i (omega arith) (omega arith) (not_from_false _ f)) in
    ap (λ n. without_leading_blanks (drop n xs)) (let e : suc i ≡ i + 1 = omega arith in e)
    ∙ past-blank xs i blank
    ∙ past-blanks xs i (λ k low high. none k low (omega (arith, high)))

-- Everything before the first character that isn't a blank is skipped.
pub up-to-first : (xs : List ℕ) (i : ℕ) → IsFirstByte is_no_blank xs (Some i) → drop i xs ≡ without_leading_blanks xs
up-to-first xs i h = sym (no-blank xs i (not-true (is_blank (get_or xs i 0)) h.1)) ∙ past-blanks xs i h.0.before
