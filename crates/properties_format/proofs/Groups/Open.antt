-- The number of backslashes at the end of a text, and which lines are open.
use Rattle.std.proofs.Common.{rules, ◌≡◌, ℕ, suc, ◌==◌, ◌⊎◌, Bool, true, false, List, [], ◌∷◌, ◌++◌, refl, ap, sym, ◌∙◌, inl, inr, append_assoc, arith}
use Rattle.std.specs.Prelude.{reverse, not, ◌%◌, if◌then◌else◌}
use Rattle.std.proofs.lemmas.Bool.Decides.{eqb_tells}
use Rattle.std.proofs.lemmas.List.{reverse-append}
use Rattle.properties_format.specs.Text.{backslash, is_blank}
use Rattle.properties_format.specs.Lines.{leading_backslashes, ending_backslashes, is_open, without_last, without_open_backslash}

-- One more character at the end.
pub ending_backslashes-push : (x : List ℕ) (c : ℕ) → ending_backslashes (x ++ c ∷ []) ≡ (if c == backslash then suc (ending_backslashes x) else 0)
ending_backslashes-push x c = ap leading_backslashes (reverse-append x (c ∷ []))

-- After any other character at the end there are none.
pub ending_backslashes-none : (x : List ℕ) (c : ℕ) → (c == backslash) ≡ false → ending_backslashes (x ++ c ∷ []) ≡ 0
ending_backslashes-none x c h = ending_backslashes-push x c ∙ rw h refl

-- Characters from the first non-backslash on don't affect the number of backslashes at the front.
leading-other : (a b : List ℕ) (c : ℕ) → (c == backslash) ≡ false → leading_backslashes (a ++ c ∷ b) ≡ leading_backslashes a
leading-other [] b c h = rw h refl
leading-other (d ∷ a) b c h = rw (leading-other a b c h) refl

-- Characters before the last non-backslash don't affect the number of backslashes at the end.
pub ending_backslashes-after : (x : List ℕ) (c : ℕ) (y : List ℕ) → (c == backslash) ≡ false → ending_backslashes (x ++ c ∷ y) ≡ ending_backslashes y
ending_backslashes-after x c y h =
    ap leading_backslashes (reverse-append x (c ∷ y) ∙ ap (λ v. v ++ reverse x) (reverse-append (c ∷ []) y) ∙ append_assoc (reverse y) (c ∷ []) (reverse x))
    ∙ leading-other (reverse y) (reverse x) c h

-- ---- open lines

-- A backslash at the end makes a line open if it wasn't, and not open if it was.
pub is_open-backslash : (x : List ℕ) → is_open (x ++ backslash ∷ []) ≡ not (is_open x)
is_open-backslash x = ap (λ v. v % 2 == 1) (ending_backslashes-push x backslash) ∙ search (rules)

-- two backslashes change nothing
pub is_open-two : (x : List ℕ) → is_open (x ++ backslash ∷ backslash ∷ []) ≡ is_open x
is_open-two x = ap is_open (sym (append_assoc x _ _)) ∙ is_open-backslash (x ++ backslash ∷ []) ∙ ap not (is_open-backslash x) ∙ not-not _
  where
    not-not : (b : Bool) → not (not b) ≡ b
    not-not b = grind (arith)

-- A line that ends in another character isn't open.
pub is_open-other : (x : List ℕ) (c : ℕ) → (c == backslash) ≡ false → is_open (x ++ c ∷ []) ≡ false
is_open-other x c h = ap (λ v. v % 2 == 1) (ending_backslashes-none x c h)

-- Whether a line is open doesn't depend on what comes before a character that isn't a backslash.
pub is_open-after : (x : List ℕ) (c : ℕ) (y : List ℕ) → (c == backslash) ≡ false → is_open (x ++ c ∷ y) ≡ is_open y
is_open-after x c y h = ap (λ v. v % 2 == 1) (ending_backslashes-after x c y h)

-- A blank isn't a backslash.
pub blank-other : (c : ℕ) → is_blank c ≡ true → (c == backslash) ≡ false
blank-other c h = grind (arith)

-- ---- the last character

-- A text with one more character, without its last character, is that text.
pub without_last-push : (x : List ℕ) (c : ℕ) → without_last (x ++ c ∷ []) ≡ x
without_last-push (d ∷ b ∷ x) c = ap (λ v. d ∷ v) (without_last-push (b ∷ x) c)
without_last-push x c = refl

-- a text is empty, or has a last character
pub last_character : (x : List ℕ) → (x ≡ []) ⊎ ((y : List ℕ) × (c : ℕ) × (x ≡ y ++ c ∷ []))
last_character [] = inl refl
last_character (c ∷ x) = elim (last_character x) [
  | inl k ↦ inr ([], c, ap (λ v. c ∷ v) k)
  | inr k ↦ inr (c ∷ k.0, k.1, ap (λ v. c ∷ v) k.2)
]

-- an open line ends in a backslash
pub open-ends : (x : List ℕ) → is_open x ≡ true → x ≡ without_last x ++ backslash ∷ []
open-ends x h = elim (last_character x) [
  | inl k ↦ let f : is_open [] ≡ true = rw k at h in absurd (cc)
  | inr k ↦ elim (eqb_tells k.1 backslash) [
    | inl m ↦ grind (arith, without_last-push)
    | inr m ↦ let f : is_open (k.0 ++ k.1 ∷ []) ≡ true = rw k.2 at h in absurd (cc (is_open-other k.0 k.1 m.0, f))
  ]
]

-- A line that isn't open is unchanged.
pub without_open_backslash-closed : (x : List ℕ) → is_open x ≡ false → without_open_backslash x ≡ x
without_open_backslash-closed x h = rw h refl
