-- Blanks at the front and at the end of a text, and the text without them.
use Rattle.std.proofs.Common.{arith, ◌≡◌, ℕ, Bool, false, List, [], ◌∷◌, ◌++◌, refl, ap, ◌∙◌, inl, inr}
use Rattle.std.proofs.lemmas.Bool.{cases_Bool, both_ways}
use Rattle.properties_format.specs.Text.{is_blank, without_leading_blanks, begins}
use Rattle.properties_format.specs.Split.{AreBlanks, ends, IsTrimmed}
use Rattle.properties_format.specs.Computed.Split.{without_trailing_blanks, unless_last_blank, trimmed}

-- Blanks that don't begin with a blank are an empty text.
pub no_blanks : (h : List ℕ) → AreBlanks h → begins is_blank h ≡ false → h ≡ []
no_blanks h h1 h2 = grind (arith, both_ways)

-- If a text doesn't begin with such a character, neither does its front.
pub begins-front : (kind : ℕ → Bool) (x y : List ℕ) → begins kind (x ++ y) ≡ false → begins kind x ≡ false
begins-front kind x y h1 = grind (arith)

-- ---- at the front

-- A text that doesn't begin with a blank is unchanged.
pub without_leading_blanks-full : (y : List ℕ) → begins is_blank y ≡ false → without_leading_blanks y ≡ y
without_leading_blanks-full y h1 = grind (arith)

-- Blanks before a text are removed, with those at the front of the text.
pub without_leading_blanks-append : (h y : List ℕ) → AreBlanks h → without_leading_blanks (h ++ y) ≡ without_leading_blanks y
without_leading_blanks-append [] y b = refl
without_leading_blanks-append (c ∷ h) y b = rw b.0 (without_leading_blanks-append h y b.1)

-- If a text doesn't begin with a blank, only the blanks before it are removed.
pub without_leading_blanks-only : (h y : List ℕ) → AreBlanks h → begins is_blank y ≡ false → without_leading_blanks (h ++ y) ≡ y
without_leading_blanks-only h y b e = without_leading_blanks-append h y b ∙ without_leading_blanks-full y e

-- Of blanks only, nothing is left.
pub without_leading_blanks-blanks : (h : List ℕ) → AreBlanks h → without_leading_blanks h ≡ []
without_leading_blanks-blanks [] b = refl
without_leading_blanks-blanks (c ∷ h) b = rw b.0 (without_leading_blanks-blanks h b.1)

-- x is blanks followed by y, and y doesn't begin with a blank.
pub record IsPast (x y : List ℕ) : Type 0 where
  pub before : List ℕ
  pub whole : x ≡ before ++ y
  pub before_blank : AreBlanks before
  pub begins_full : begins is_blank y ≡ false

-- This holds for a text and what is left of it without its leading blanks.
pub without_leading_blanks-meets : (x : List ℕ) → IsPast x (without_leading_blanks x)
without_leading_blanks-meets [] = record { before = []; whole = refl; before_blank = tt; begins_full = refl }
without_leading_blanks-meets (c ∷ x) = elim (cases_Bool (is_blank c)) [
  | inl e ↦ rw e (let r : IsPast x (without_leading_blanks x) =
      without_leading_blanks-meets x in record { before = c ∷ r.before; whole = ap (λ v. c ∷ v) r.whole; before_blank = (e, r.before_blank); begins_full = r.begins_full })
  | inr e ↦ rw e (record { before = []; whole = refl; before_blank = tt; begins_full = e })
]

-- ---- at the end

-- Of blanks only, nothing is left.
pub without_trailing_blanks-blanks : (h : List ℕ) → AreBlanks h → without_trailing_blanks h ≡ []
without_trailing_blanks-blanks [] b = refl
without_trailing_blanks-blanks (c ∷ h) b = ap (unless_last_blank c) (without_trailing_blanks-blanks h b.1) ∙ rw b.0 refl

-- If a text doesn't end with a blank, only the blanks after it are removed.
pub without_trailing_blanks-only : (y h : List ℕ) → AreBlanks h → ends is_blank y ≡ false → without_trailing_blanks (y ++ h) ≡ y
without_trailing_blanks-only (c ∷ d ∷ y) h b e = ap (unless_last_blank c) (without_trailing_blanks-only (d ∷ y) h b e)
without_trailing_blanks-only y h h1 h2 = grind (arith, without_trailing_blanks-blanks)

-- x is y followed by blanks, and y doesn't end with a blank.
pub record IsBefore (x y : List ℕ) : Type 0 where
  pub after : List ℕ
  pub whole : x ≡ y ++ after
  pub after_blank : AreBlanks after
  pub ends_full : ends is_blank y ≡ false

-- A character at the front stays, unless it is a blank with nothing left after it.
before-step : (c : ℕ) (x y : List ℕ) → IsBefore x y → IsBefore (c ∷ x) (unless_last_blank c y)
before-step c x [] r = elim (cases_Bool (is_blank c)) [
  | inl e ↦ rw e (record { after = c ∷ r.after; whole = ap (λ v. c ∷ v) r.whole; after_blank = (e, r.after_blank); ends_full = refl })
  | inr e ↦ rw e (record { after = r.after; whole = ap (λ v. c ∷ v) r.whole; after_blank = r.after_blank; ends_full = e })
]
before-step c x (d ∷ y) r = record { after = r.after; whole = ap (λ v. c ∷ v) r.whole; after_blank = r.after_blank; ends_full = r.ends_full }

-- This holds for a text and what is left of it without its trailing blanks.
pub without_trailing_blanks-meets : (x : List ℕ) → IsBefore x (without_trailing_blanks x)
without_trailing_blanks-meets [] = record { after = []; whole = refl; after_blank = tt; ends_full = refl }
without_trailing_blanks-meets (c ∷ x) = before-step c x (without_trailing_blanks x) (without_trailing_blanks-meets x)

-- ---- at both ends

-- An empty core has nothing after it, if the text that it is part of doesn't begin with a blank.
empty_last : (x y after : List ℕ) → x ≡ y ++ after → AreBlanks after → begins is_blank x ≡ false → y ≡ [] → after ≡ []
empty_last x y after h1 h2 h3 h4 = grind (arith, no_blanks)

-- What is computed is the core of the text.
pub trimmed-meets : (x : List ℕ) → IsTrimmed x (trimmed x)
trimmed-meets x = whole (without_leading_blanks x) (without_leading_blanks-meets x) (without_trailing_blanks-meets (without_leading_blanks x))
  where
    whole : (y : List ℕ) → IsPast x y → IsBefore y (without_trailing_blanks y) → IsTrimmed x (without_trailing_blanks y)
    whole y p b = record {
      before = p.before;
      after = b.after;
      whole = p.whole ∙ ap (λ v. p.before ++ v) b.whole;
      before_blank = p.before_blank;
      after_blank = b.after_blank;
      begins_full = begins-front is_blank (without_trailing_blanks y) b.after (rw (← b.whole) p.begins_full);
      ends_full = b.ends_full;
      empty_last = empty_last y (without_trailing_blanks y) b.after b.whole b.after_blank p.begins_full;
    }

-- A core followed by what comes after it doesn't begin with a blank, if nothing comes after an empty core.
pub core-begins : (core after : List ℕ) → begins is_blank core ≡ false → (core ≡ [] → after ≡ []) → begins is_blank (core ++ after) ≡ false
core-begins core after h1 h2 = grind (arith)

-- A core of the text is the computed one.
pub trimmed-only : (x core : List ℕ) → IsTrimmed x core → core ≡ trimmed x
trimmed-only x core t = grind (arith, without_leading_blanks-only, core-begins, without_trailing_blanks-only)
