-- The separators among comment lines: there is one division at the last one, and what one line more changes.
use Rattle.std.proofs.Common.{◌≡◌, ℕ, Bool, true, false, List, [], ◌∷◌, ◌++◌, refl, sym, ap, ap₂, ◌∙◌, subst, inl, inr, append-nil}
use Rattle.std.specs.Prelude.{◌⊎◌, ◌&&◌, ◌==◌, get_or, reverse}
use Rattle.std.proofs.lemmas.Bool.{cases_Bool, ne_eqb}
use Rattle.std.proofs.lemmas.Bool.Decides.{Decides-eqb}
use Rattle.std.proofs.lemmas.List.{reverse-append}
use Rattle.properties_format.specs.Text.{begins, is_comment_sign, without_leading_blanks}
use Rattle.properties_format.specs.Lines.{is_comment_line}
use Rattle.properties_format.specs.Separators.{AreSeparated, are_shaped, ends_separated, ends_shaped, has_shape, sign_of}

-- ---- one division

-- Lines that are divided twice: one of the fronts begins with the other.
pub compare : (a b c d : List (List ℕ)) → a ++ b ≡ c ++ d → (m : List (List ℕ)) × ((c ≡ a ++ m) × (b ≡ m ++ d) ⊎ (a ≡ c ++ m) × (d ≡ m ++ b))
compare [] b c d q = (c, inl (refl, q))
compare (x ∷ a) b [] d q = (x ∷ a, inr (refl, sym q))
compare (x ∷ a) b (y ∷ c) d q =
    let first : x ≡ y = cc in
    let k = compare a b c d (cc) in (
      k.0,
      elim k.1 [
        | inl p ↦ inl (ap₂ (λ u v. u ∷ v) (sym first) p.0, p.1)
        | inr p ↦ inr (ap₂ (λ u v. u ∷ v) first p.0, p.1)
      ],
    )

not-later : (a b c d m : List (List ℕ)) → AreSeparated a b → AreSeparated c d → c ≡ a ++ m → b ≡ m ++ d → m ≡ []
not-later a b c d [] h k front rest = refl
not-later a b c d (x ∷ m) h k front rest = absurd (elim k.last [
  | inl none ↦ some a x m (sym front ∙ none)
  | inr is ↦ let other = h.none_below x m d rest in let same = subst (λ w. ends_separated w d ≡ true) front is in cc
])
  where
    some : (ys : List (List ℕ)) (y : List ℕ) (zs : List (List ℕ)) → ys ++ y ∷ zs ≡ [] → ⊥
    some [] y zs q = absurd (cc)
    some (z ∷ ys) y zs q = absurd (cc)

pub one-separated : (a b c d : List (List ℕ)) → AreSeparated a b → AreSeparated c d → a ++ b ≡ c ++ d → (a ≡ c) × (b ≡ d)
one-separated a b c d h k q =
    let (m, parts) = compare a b c d q in
    elim parts [
      | inl p ↦ let none = not-later a b c d m h k p.0 p.1 in (sym (append-nil a) ∙ ap (λ w. a ++ w) (sym none) ∙ sym p.0, p.1 ∙ ap (λ w. w ++ d) none)
      | inr p ↦ let none = not-later c d a b m k h p.0 p.1 in (p.0 ∙ ap (λ w. c ++ w) none ∙ append-nil c, ap (λ w. w ++ b) (sym none) ∙ sym p.1)
    ]

-- ---- one line more

pub turned : (xs : List (List ℕ)) (x : List ℕ) → reverse (xs ++ x ∷ []) ≡ x ∷ reverse xs
turned xs x = reverse-append xs (x ∷ [])

in-run : (sign : ℕ) (x : List ℕ) (xs : List (List ℕ)) → sign_of x ≡ sign → are_shaped sign (x ∷ xs) ≡ (has_shape x && are_shaped sign xs)
in-run sign x xs q = rw ((Decides-eqb (sign_of x) sign).1 q) refl

past-run : (sign : ℕ) (xs : List (List ℕ)) → ¬ (sign ≡ sign_of (get_or xs 0 [])) → are_shaped sign xs ≡ true
past-run sign [] q = refl
past-run sign (x ∷ xs) q = rw (ne_eqb (sign_of x) sign (λ s. q (sym s))) refl

-- Given the lines above from the last one upwards: a line with the same sign is in the run,
pub same-place : (up : List (List ℕ)) (x : List ℕ) (rest : List (List ℕ)) → ¬ (sign_of (get_or up 0 []) ≡ 0) → sign_of x ≡ sign_of (get_or up 0 [])
    → ends_shaped up (x ∷ rest) ≡ ends_shaped (x ∷ up) rest
same-place [] x rest some q = absurd (some refl)
same-place (y ∷ ys) x rest some q =
    let s = sign_of y in
    ap (λ b. are_shaped s (y ∷ ys) && b) (in-run s x rest q)
    ∙ swap (are_shaped s (y ∷ ys)) (has_shape x) (are_shaped s rest)
    ∙ sym (ap (λ t. are_shaped t (x ∷ y ∷ ys) && are_shaped t rest) q ∙ ap (λ b. b && are_shaped s rest) (in-run s x (y ∷ ys) q))
  where
    swap : (a b c : Bool) → (a && (b && c)) ≡ ((b && a) && c)
    swap true true c = refl
    swap true false c = refl
    swap false true c = refl
    swap false false c = refl

pub shape-same : (up : List (List ℕ)) (x : List ℕ) → ¬ (sign_of (get_or up 0 []) ≡ 0) → sign_of x ≡ sign_of (get_or up 0 [])
    → (ends_shaped up [] && has_shape x) ≡ ends_shaped (x ∷ up) []
shape-same [] x some q = absurd (some refl)
shape-same (y ∷ ys) x some q =
    bare (are_shaped (sign_of y) (y ∷ ys)) (has_shape x) ∙ sym (ap (λ b. are_shaped (sign_of y) (y ∷ ys) && b) (in-run (sign_of y) x [] q))
    ∙ same-place (y ∷ ys) x [] some q
  where
    bare : (a b : Bool) → ((a && true) && b) ≡ (a && (b && true))
    bare true true = refl
    bare true false = refl
    bare false b = refl

-- and one with another sign isn't.
pub other-place : (up : List (List ℕ)) (x : List ℕ) (rest : List (List ℕ)) → ¬ (sign_of x ≡ sign_of (get_or up 0 [])) → ends_shaped up (x ∷ rest) ≡ ends_shaped up []
other-place [] x rest q = refl
other-place (y ∷ ys) x rest q = ap (λ b. are_shaped (sign_of y) (y ∷ ys) && b) (past-run (sign_of y) (x ∷ rest) (λ s. q (sym s)))

pub shape-other : (up : List (List ℕ)) (x : List ℕ) → ¬ (sign_of x ≡ sign_of (get_or up 0 [])) → has_shape x ≡ ends_shaped (x ∷ up) []
shape-other up x q =
    bare (has_shape x) ∙ ap (λ b. (has_shape x && b) && true) (sym (past-run (sign_of x) up q)) ∙ ap (λ b. b && true) (sym (in-run (sign_of x) x up refl))
  where
    bare : (a : Bool) → a ≡ ((a && true) && true)
    bare true = refl
    bare false = refl

pub sign-marks : (x : List ℕ) → is_comment_line x ≡ true → is_comment_sign (sign_of x) ≡ true
sign-marks x h = first (without_leading_blanks x) h
  where
    first : (y : List ℕ) → begins is_comment_sign y ≡ true → is_comment_sign (get_or y 0 0) ≡ true
    first [] h = absurd (cc)
    first (c ∷ cs) h = h
