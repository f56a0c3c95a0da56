-- If blanks are spelt as themselves, a text without the blanks at its ends means what the whole means without the
-- blanks at its ends.
use Rattle.std.proofs.Common.{◌≡◌, ◌&&◌, ℕ, true, false, if◌then◌else◌, List, [], ◌∷◌, ◌++◌, map, refl, ap, sym, ◌∙◌, inl, inr}
use Rattle.std.proofs.lemmas.Bool.{cases_Bool, both_ways, and_parts, cond_both}
use Rattle.properties_format.specs.Text.{is_blank, without_leading_blanks, begins}
use Rattle.properties_format.specs.Split.{ends}
use Rattle.properties_format.specs.Computed.Split.{without_trailing_blanks, unless_last_blank, trimmed}
use Rattle.properties_format.specs.Escapes.{escaped_character, is_hexadecimal, Four, are_hexadecimal, code_unit, pair_character, Spelling, itself, escaped, unicode, surrogates, last, spelling_text, spelling_character, spellings_before, means}
use Rattle.properties_format.specs.Computed.Escapes.{meaning_of}
use Rattle.properties_format.proofs.Split.Blanks.{without_leading_blanks-full}
use Rattle.properties_format.proofs.Escapes.Unique.{spelling_tail}
use Rattle.properties_format.proofs.Escapes.Digits.{hexadecimal-plain}
use Rattle.properties_format.proofs.Escapes.Laws.{AreWhole, meaning_of-all}

-- The spelling of a blank is the blank; the spelling of another character neither begins nor ends with a blank.
pub record KeepsBlanks (p : Spelling) : Type 0 where
  pub at_front : begins is_blank (spelling_text p) ≡ is_blank (spelling_character p)
  pub at_end : ends is_blank (spelling_text p) ≡ is_blank (spelling_character p)

-- each of these spellings keeps blanks in this way
abbrev pub AllKeepBlanks : List Spelling → Type 0
AllKeepBlanks [] = Unit {0}
AllKeepBlanks (p ∷ ps) = KeepsBlanks p × AllKeepBlanks ps

-- the spellings without those of blanks at the front
abbrev past : List Spelling → List Spelling
past [] = []
past (p ∷ ps) = if is_blank (spelling_character p) then past ps else p ∷ ps

-- the spellings with one more at the front, unless it is that of a blank and no others follow
unless_last : Spelling → List Spelling → List Spelling
unless_last p [] = if is_blank (spelling_character p) then [] else p ∷ []
unless_last p (q ∷ qs) = p ∷ q ∷ qs

-- the spellings without those of blanks at the end
abbrev before : List Spelling → List Spelling
before [] = []
before (p ∷ ps) = unless_last p (before ps)

-- ---- the character that a blank's spelling begins with

-- The spelling of a blank is only that blank.
blank-text : (p : Spelling) → KeepsBlanks p → is_blank (spelling_character p) ≡ true → spelling_text p ≡ spelling_character p ∷ []
blank-text (itself c) k b = refl
blank-text p k b = absurd (both_ways _ (sym k.at_front) b)

-- A text that begins with a spelling has a first character.
text-some : (p : Spelling) (y : List ℕ) → (c : ℕ) × (cs : List ℕ) × (spelling_text p ++ y ≡ c ∷ cs)
text-some (itself c) y = (_, _, refl)
text-some p y = (_, _, refl)

-- ---- at the front

-- Whether a spelling begins with a blank doesn't depend on what follows.
begins-text : (p : Spelling) (y : List ℕ) → begins is_blank (spelling_text p ++ y) ≡ begins is_blank (spelling_text p)
begins-text (itself c) y = refl
begins-text p y = refl

-- The text without its leading blanks is that of the spellings without their leading blanks.
without_leading_blanks-text : (ps : List Spelling) → AllKeepBlanks ps → without_leading_blanks (spellings_before ps []) ≡ spellings_before (past ps) []
without_leading_blanks-text [] k = refl
without_leading_blanks-text (p ∷ ps) k = elim (cases_Bool (is_blank (spelling_character p))) [
  | inl b ↦ rw b (rw (blank-text p k.0 b) (rw b (without_leading_blanks-text ps k.1)))
  | inr b ↦ rw b (without_leading_blanks-full (spelling_text p ++ spellings_before ps []) (begins-text p (spellings_before ps []) ∙ k.0.at_front ∙ b))
]

-- The characters without leading blanks are those of the spellings without theirs.
without_leading_blanks-characters : (ps : List Spelling) → without_leading_blanks (map spelling_character ps) ≡ map spelling_character (past ps)
without_leading_blanks-characters [] = refl
without_leading_blanks-characters (p ∷ ps) = elim (cases_Bool (is_blank (spelling_character p))) [
  | inl b ↦ rw b (without_leading_blanks-characters ps)
  | inr b ↦ rw b refl
]

-- The spellings that are left are whole if all were.
past-whole : (ps : List Spelling) → AreWhole ps → AreWhole (past ps)
past-whole [] h = tt
past-whole (p ∷ ps) h = cond_both (is_blank (spelling_character p)) (past ps) (p ∷ ps) AreWhole (λ b. past-whole ps h.1) (λ b. h)

-- The spellings that are left keep blanks if all did.
past-keep : (ps : List Spelling) → AllKeepBlanks ps → AllKeepBlanks (past ps)
past-keep [] h = tt
past-keep (p ∷ ps) h = cond_both (is_blank (spelling_character p)) (past ps) (p ∷ ps) AllKeepBlanks (λ b. past-keep ps h.1) (λ b. h)

-- ---- at the end

-- A character that isn't a blank stays at the front.
pub full-last : (c : ℕ) (y : List ℕ) → is_blank c ≡ false → unless_last_blank c y ≡ c ∷ y
full-last c [] b = rw b refl
full-last c (d ∷ y) b = refl

-- A text that doesn't end with a blank stays at the front.
without_trailing_blanks-front : (c : ℕ) (t y : List ℕ) → ends is_blank (c ∷ t) ≡ false
    → without_trailing_blanks (c ∷ t ++ y) ≡ c ∷ t ++ without_trailing_blanks y
without_trailing_blanks-front c [] y e = full-last c (without_trailing_blanks y) e
without_trailing_blanks-front c (d ∷ t) y e = ap (unless_last_blank c) (without_trailing_blanks-front d t y e)

-- A spelling that doesn't end with a blank stays at the front.
without_trailing_blanks-spelling : (p : Spelling) (y : List ℕ) → ends is_blank (spelling_text p) ≡ false
    → without_trailing_blanks (spelling_text p ++ y) ≡ spelling_text p ++ without_trailing_blanks y
without_trailing_blanks-spelling (itself c) y e = without_trailing_blanks-front c [] y e
without_trailing_blanks-spelling (escaped c) y e = without_trailing_blanks-front _ (c ∷ []) y e
without_trailing_blanks-spelling (unicode d) y e = without_trailing_blanks-front _ (spelling_tail (unicode d)) y e
without_trailing_blanks-spelling (surrogates high low) y e = without_trailing_blanks-front _ (spelling_tail (surrogates high low)) y e
without_trailing_blanks-spelling last y e = without_trailing_blanks-front _ [] y e

-- Among spellings, one of a character that isn't a blank stays at the front.
full-unless : (p : Spelling) (qs : List Spelling) → is_blank (spelling_character p) ≡ false → unless_last p qs ≡ p ∷ qs
unfolding unless_last
full-unless p [] b = rw b refl
full-unless p (q ∷ qs) b = refl

-- A blank before what is left.
blank-front : (p : Spelling) (qs : List Spelling) → KeepsBlanks p → is_blank (spelling_character p) ≡ true
    → unless_last_blank (spelling_character p) (spellings_before qs []) ≡ spellings_before (unless_last p qs) []
unfolding unless_last
blank-front p [] k b = rw b refl
blank-front p (q ∷ qs) k b = go (spelling_text q ++ spellings_before qs []) (text-some q (spellings_before qs []))
  where
    go : (x : List ℕ) → (c : ℕ) × (cs : List ℕ) × (x ≡ c ∷ cs) → unless_last_blank (spelling_character p) x ≡ spelling_text p ++ x
    go x (c, cs, e) = rw (e, blank-text p k b) refl

-- The text without its trailing blanks is that of the spellings without theirs.
without_trailing_blanks-text : (ps : List Spelling) → AllKeepBlanks ps → without_trailing_blanks (spellings_before ps []) ≡ spellings_before (before ps) []
without_trailing_blanks-text [] k = refl
without_trailing_blanks-text (p ∷ ps) k = elim (cases_Bool (is_blank (spelling_character p))) [
  | inl b ↦ ap (λ t. without_trailing_blanks (t ++ spellings_before ps [])) (blank-text p k.0 b)
      ∙ ap (unless_last_blank (spelling_character p)) (without_trailing_blanks-text ps k.1)
      ∙ blank-front p (before ps) k.0 b
  | inr b ↦ without_trailing_blanks-spelling p (spellings_before ps []) (k.0.at_end ∙ b)
      ∙ ap (λ v. spelling_text p ++ v) (without_trailing_blanks-text ps k.1)
      ∙ ap (λ v. spellings_before v []) (sym (full-unless p (before ps) b))
]

-- A character at the front stays if its spelling does.
unless-characters : (p : Spelling) (qs : List Spelling)
    → unless_last_blank (spelling_character p) (map spelling_character qs) ≡ map spelling_character (unless_last p qs)
unfolding unless_last
unless-characters p [] = elim (cases_Bool (is_blank (spelling_character p))) [ inl b ↦ rw b refl | inr b ↦ rw b refl ]
unless-characters p (q ∷ qs) = refl

-- The characters without trailing blanks are those of the spellings without theirs.
without_trailing_blanks-characters : (ps : List Spelling) → without_trailing_blanks (map spelling_character ps) ≡ map spelling_character (before ps)
without_trailing_blanks-characters [] = refl
without_trailing_blanks-characters (p ∷ ps) = ap (unless_last_blank (spelling_character p)) (without_trailing_blanks-characters ps) ∙ unless-characters p _

-- With or without one more at the front, the spellings are whole if all were.
unless-whole : (p : Spelling) (qs : List Spelling) → AreWhole (p ∷ qs) → AreWhole (unless_last p qs)
unfolding unless_last
unless-whole p [] h = elim (cases_Bool (is_blank (spelling_character p))) [ inl b ↦ rw b tt | inr b ↦ rw b h ]
unless-whole p (q ∷ qs) h = h

-- The spellings without trailing blanks are whole if all were.
before-whole : (ps : List Spelling) → AreWhole ps → AreWhole (before ps)
before-whole [] h = tt
before-whole (p ∷ ps) h = unless-whole p (before ps) (h.0, before-whole ps h.1)

-- ---- at both ends

-- The text of whole spellings that keep blanks, without the blanks at its ends, means their characters without the
-- blanks at their ends.
pub meaning_of-trimmed : (ps : List Spelling) → AreWhole ps → AllKeepBlanks ps
    → meaning_of (trimmed (spellings_before ps [])) ≡ means (trimmed (map spelling_character ps))
meaning_of-trimmed ps h k =
    let e : trimmed (spellings_before ps [])
    ≡ spellings_before _ [] = ap without_trailing_blanks (without_leading_blanks-text ps k) ∙ without_trailing_blanks-text (past ps) (past-keep ps k) in
    let f : trimmed (map spelling_character ps)
    ≡ map spelling_character _ = ap without_trailing_blanks (without_leading_blanks-characters ps) ∙ without_trailing_blanks-characters (past ps) in
    ap meaning_of e ∙ meaning_of-all (before (past ps)) (before-whole (past ps) (past-whole ps h)) ∙ ap means (sym f)

-- ---- which spellings keep blanks

-- a character that is spelt as itself
pub KeepsBlanks-itself : (c : ℕ) → KeepsBlanks (itself c)
KeepsBlanks-itself c = record { at_front = refl; at_end = refl }

-- A backslash and a character, if neither that character nor the one they mean is a blank.
pub KeepsBlanks-escaped : (c : ℕ) → is_blank c ≡ false → is_blank (escaped_character c) ≡ false → KeepsBlanks (escaped c)
KeepsBlanks-escaped c e f = record { at_front = sym f; at_end = e ∙ sym f }

-- The last of four digits isn't a blank.
fourth-full : (d : Four) → are_hexadecimal d ≡ true → is_blank d.fourth ≡ false
fourth-full d h =
    let p = and_parts (is_hexadecimal d.first && is_hexadecimal d.second) (is_hexadecimal d.third && is_hexadecimal d.fourth) h in
    let q = and_parts (is_hexadecimal d.third) (is_hexadecimal d.fourth) p.1 in
    (hexadecimal-plain d.fourth q.1).1

-- A `\u` escape of a character that isn't a blank.
pub KeepsBlanks-unicode : (d : Four) → are_hexadecimal d ≡ true → is_blank (code_unit d) ≡ false → KeepsBlanks (unicode d)
KeepsBlanks-unicode d h f = record { at_front = sym f; at_end = fourth-full d h ∙ sym f }

-- two `\u` escapes of surrogates
pub KeepsBlanks-surrogates : (high low : Four) → are_hexadecimal low ≡ true → is_blank (pair_character (code_unit high) (code_unit low)) ≡ false
    → KeepsBlanks (surrogates high low)
KeepsBlanks-surrogates high low h f = record { at_front = sym f; at_end = fourth-full low h ∙ sym f }
