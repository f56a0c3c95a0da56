-- Which spelling a text begins with: at most one, and the computation finds it.
use Rattle.std.proofs.Common.{rules, arith, ◌≡◌, ℕ, ◌==◌, ◌&&◌, true, false, List, [], ◌∷◌, ◌++◌, Option, Some, None, refl, ap, ◌∙◌, inl, inr}
use Rattle.std.proofs.lemmas.Bool.{cases_Bool, eqb-true, and_parts, or_parts, or_from}
use Rattle.properties_format.specs.Text.{backslash}
use Rattle.properties_format.specs.Escapes.{letter_u, Four, four_text, are_hexadecimal, code_unit, is_high, is_low, is_surrogate, Spelling, unicode, surrogates, spelling_text, IsSpelling, NoSpelling}
use Rattle.properties_format.specs.Computed.Escapes.{with_low, with_digits, after_u, first_spelling}

-- the spelling that the text begins with, if there is one
abbrev pub spelling_of : List ℕ → Option Spelling
spelling_of [] = None
spelling_of (c ∷ cs) = first_spelling c cs

-- A unit that isn't a surrogate isn't a high one.
high-surrogate : (n : ℕ) → is_surrogate n ≡ false → is_high n ≡ false
high-surrogate n e = (or_parts (is_high n) (is_low n) e).0

-- A unit that isn't a surrogate isn't a low one.
low-surrogate : (n : ℕ) → is_surrogate n ≡ false → is_low n ≡ false
low-surrogate n e = (or_parts (is_high n) (is_low n) e).1

-- The spelling at the front is found.
pub spelling_of-only : (p : Spelling) (rest : List ℕ) → IsSpelling p rest → spelling_of (spelling_text p ++ rest) ≡ Some p
spelling_of-only (unicode d) rest h = search (rules, high-surrogate, low-surrogate)
spelling_of-only (surrogates high low) rest h = rw (h.0, h.1, h.2, h.3) refl
spelling_of-only p rest h = rw h refl

-- If no spelling is found, there is none.
pub spelling_of-none : (x : List ℕ) → spelling_of x ≡ None → NoSpelling x
spelling_of-none x e p rest w h = let f : spelling_of x ≡ Some p = ap spelling_of w ∙ spelling_of-only p rest h in absurd (cc)

-- ---- a spelling that is found is there

-- The spelling begins the text.
pub record IsFirst (x : List ℕ) (p : Spelling) : Type 0 where
  pub rest : List ℕ
  pub whole : x ≡ spelling_text p ++ rest
  pub is_spelling : IsSpelling p rest

-- The text begins with a `\u`.
pub record IsEscape (x : List ℕ) : Type 0 where
  pub after : List ℕ
  pub whole : x ≡ backslash ∷ letter_u ∷ after

abbrev pub IsFound : List ℕ → Option Spelling → Type 0
IsFound x None = IsEscape x
IsFound x (Some p) = IsFirst x p

-- If no spelling is found at a `\u`, the text begins with a `\u`.
escape-found : (after : List ℕ) → IsFound (backslash ∷ letter_u ∷ after) None
escape-found after = record { after = after; whole = refl }

-- What passes the test for the escape of a low surrogate is a `\u` and the digits of one.
low-parts : (x y : ℕ) (low : Four) → ((x == backslash && y == letter_u) && (are_hexadecimal low && is_low (code_unit low))) ≡ true
    → (x ≡ backslash) × (y ≡ letter_u) × (are_hexadecimal low ≡ true) × (is_low (code_unit low) ≡ true)
low-parts x y low e = grind (arith, and_parts, eqb-true)

-- What is found at the digits of a high surrogate is there; or nothing is found, and the text begins with a `\u`.
low-found : (high : Four) (rest : List ℕ) → are_hexadecimal high ≡ true → is_high (code_unit high) ≡ true
    → IsFound (backslash ∷ letter_u ∷ four_text high ++ rest) (with_low high rest)
low-found high (x ∷ y ∷ a ∷ b ∷ c ∷ d ∷ rest) h k =
    let low : Four = record { first = a; second = b; third = c; fourth = d } in
    elim (cases_Bool ((x == backslash && y == letter_u) && (are_hexadecimal low && is_low (code_unit low)))) [
      | inl e ↦ rw e (let p = low-parts x y low e in record { rest = rest; whole = grind (arith); is_spelling = (h, k, p.2, p.3) })
      | inr e ↦ rw e (escape-found (four_text high ++ (x ∷ y ∷ a ∷ b ∷ c ∷ d ∷ rest)))
    ]
low-found high rest h k = escape-found (four_text high ++ rest)

-- What is found at any four characters after a `\u` is there; or nothing is found, and the text begins with a `\u`.
digits-found : (d : Four) (rest : List ℕ) → IsFound (backslash ∷ letter_u ∷ four_text d ++ rest) (with_digits d rest)
digits-found d rest = elim (cases_Bool (are_hexadecimal d)) [
  | inl e ↦ rw e (elim (cases_Bool (is_high (code_unit d))) [
    | inl h ↦ rw h (low-found d rest e h)
    | inr h ↦ rw h (elim (cases_Bool (is_low (code_unit d))) [
      | inl l ↦ rw l (escape-found (four_text d ++ rest))
      | inr l ↦ rw l (record { rest = rest; whole = refl; is_spelling = (e, or_from (is_high (code_unit d)) (is_low (code_unit d)) h l) })
    ])
  ])
  | inr e ↦ rw e (escape-found (four_text d ++ rest))
]

-- What is found after a `\u` is there; or nothing is found, and the text begins with a `\u`.
u-found : (after : List ℕ) → IsFound (backslash ∷ letter_u ∷ after) (after_u after)
u-found (a ∷ b ∷ c ∷ d ∷ rest) = digits-found record { first = a; second = b; third = c; fourth = d } rest
u-found after = escape-found after

-- What is found at any character is there; or nothing is found, and the text begins with a `\u`.
pub first_spelling-found : (c : ℕ) (cs : List ℕ) → IsFound (c ∷ cs) (first_spelling c cs)
first_spelling-found c cs = grind (arith, eqb-true, u-found)
