-- Texts that look like NAME=TEXT.
use Rattle.std.proofs.Common.{◌≡◌, ◌≢◌, ◌<◌, ◌||◌, Bool, true, false, not, ℕ, suc, List, [], ◌∷◌, ◌++◌, length, get_or, MatchBool}
use Rattle.std.proofs.Common.{refl, ap, sym, ◌∙◌, arith, true≢false}
use Rattle.std.specs.List.{list_any}
use Rattle.properties_format.specs.Text.{is_blank}
use Rattle.propedit_arguments.specs.Private.Edits.{is_sign, IsAssignment}

or-none : (a b : Bool) → (a || b) ≡ false → (a ≡ false) × (b ≡ false)
or-none true b e = absurd (true≢false e)
or-none false b e = (refl, e)

or-true : (a : Bool) → (a || true) ≡ true
or-true true = refl
or-true false = refl

-- No `=` is among characters of which each is another one.
lacks-at : (xs : List ℕ) → ((i : ℕ) → i < length xs → get_or xs i 0 ≢ 0x3D) → list_any is_sign xs ≡ false
lacks-at [] h = refl
lacks-at (x ∷ xs) h =
    let head : is_sign x ≡ false = grind (arith, h 0 (omega arith)) in
    ap (λ b. b || list_any is_sign xs) head ∙ lacks-at xs (λ i l. h (suc i) (omega arith))

-- A name with a `=` behind it has one.
pub has-sign : (name value : List ℕ) → list_any is_sign (name ++ (0x3D ∷ value)) ≡ true
has-sign [] value = refl
has-sign (x ∷ name) value = ap (λ b. is_sign x || b) (has-sign name value) ∙ or-true (is_sign x)

-- What stands before the first `=` is one text.
same-name : (a b u v : List ℕ) → list_any is_sign a ≡ false → list_any is_sign b ≡ false → a ++ (0x3D ∷ u) ≡ b ++ (0x3D ∷ v) → a ≡ b
same-name [] [] u v p q e = refl
same-name [] (y ∷ b) u v p q e = let same : 0x3D ≡ y = cc in absurd (true≢false (ap is_sign same ∙ (or-none (is_sign y) _ q).0))
same-name (x ∷ a) [] u v p q e = let same : 0x3D ≡ x = cc in absurd (true≢false (ap is_sign same ∙ (or-none (is_sign x) _ p).0))
same-name (x ∷ a) (y ∷ b) u v p q e =
    let head : x ≡ y = cc in
    let tail : a ++ (0x3D ∷ u) ≡ b ++ (0x3D ∷ v) = cc in
    ap (λ c. c ∷ a) head ∙ ap (λ t. y ∷ t) (same-name a b u v (or-none (is_sign x) _ p).1 (or-none (is_sign y) _ q).1 tail)

-- Whether a text looks so, given what stands around its first `=`.
pub tells : (text name value : List ℕ) (blank : Bool) → text ≡ name ++ (0x3D ∷ value) → ((i : ℕ) → i < length name → get_or name i 0 ≢ 0x3D)
    → name ≢ [] → blank ≡ list_any is_blank name → MatchBool (not blank) (IsAssignment text) (IsAssignment text → ⊥)
tells text name value true is lacks some e =
    λ a. let same = same-name a.name name a.value value a.first (lacks-at name lacks) (sym a.is ∙ is) in
    true≢false (e ∙ ap (list_any is_blank) (sym same) ∙ a.whole)
tells text name value false is lacks some e = record { name = name; value = value; is = is; first = lacks-at name lacks; some = some; whole = sym e }

-- A text without a `=` doesn't look so.
pub tells-unsigned : (text : List ℕ) → ((i : ℕ) → i < length text → get_or text i 0 ≢ 0x3D) → IsAssignment text → ⊥
tells-unsigned text lacks a = true≢false (sym (has-sign a.name a.value) ∙ ap (list_any is_sign) (sym a.is) ∙ lacks-at text lacks)
