-- What parts mean, on either side alike.
use Rattle.std.proofs.Common.{rules, ◌≡◌, ℕ, zero, suc, ◌==◌, ◌≤◌, Bool, true, false, List, [], ◌∷◌, ◌++◌, length, Option, Some, None, refl, ap, subst, sym, ◌∙◌, inl, inr, arith}
use Rattle.std.specs.Prelude.{not}
use Rattle.std.proofs.lemmas.Bool.{cases_Bool, eqb-true}
use Rattle.properties_format.specs.Text.{backslash}
use Rattle.properties_format.specs.Utf16.{is_high, is_low, is_surrogate}
use Rattle.properties_format.specs.Escapes.{Malformed, letter_u, Spelling, itself, escaped, unicode, surrogates, last, spelling_text, spelling_character, IsSpelling, is_hexadecimal, Four, are_hexadecimal, four_text, code_unit, Meaning, means, breaks}
use Rattle.properties_format.specs.Computed.Escapes.{first_spelling, meaning_of}
use Rattle.properties_format.proofs.Escapes.First.{spelling_of-none, first_spelling-found, IsFirst, IsFound}
use Rattle.properties_format.proofs.Escapes.Laws.{IsWhole, IsWhole-spelling}
use Rattle.properties_format.proofs.Escapes.Unique.{meaning_of-spelling, meaning_of-fault}
use Rattle.properties_format.proofs.RespeltTexts.Parts.{Part, same, after_backslash, past, lone, on, text, IsPast, AreParts, on-whole, on-beyond, escaped-beyond}
use Rattle.properties_format.proofs.Escapes.Digits.{digits}

-- What parts mean on the one side, they mean on the other.
abbrev Carries : Meaning → Meaning → Type 0
Carries m n = (x : List ℕ) → m ≡ means x → n ≡ means x

means≢breaks : (x : List ℕ) (k : Malformed) → breaks k ≡ means x → ⊥
means≢breaks x k h = cc

-- ---- which parts a text's front comes from

-- If the text begins with a digit, the first part is that digit.
record Begins (side : Bool) (ps : List Part) (c : ℕ) (x : List ℕ) : Type 0 where
  after : List Part
  parts : ps ≡ same c ∷ after
  rest : x ≡ text side after

head-is : (c d : ℕ) (x y : List ℕ) → c ∷ x ≡ d ∷ y → (c ≡ d) × (x ≡ y)
head-is c d x y h = (cc, cc)

begins-digit : (side : Bool) (ps : List Part) (c : ℕ) (x : List ℕ) → AreParts ps → is_hexadecimal c ≡ true → text side ps ≡ c ∷ x → Begins side ps c x
begins-digit side [] c x k h e = absurd (cc)
begins-digit side (same d ∷ ps) c x k h e = grind (arith, head-is, same)
begins-digit side (after_backslash d ∷ ps) c x k h e = let f = (head-is backslash c (d ∷ text side ps) x e).0 in absurd (grind (arith))
begins-digit side (past p q ∷ ps) c x k h e = absurd (search (rules, head-is))
begins-digit side (lone ∷ ps) c x k h e = let f = (head-is backslash c (text side ps) x e).0 in absurd (grind (arith))

-- If the text begins with four digits, the first four parts are these digits.
record BeginsFour (side : Bool) (ps : List Part) (d : Four) (x : List ℕ) : Type 0 where
  after : List Part
  parts : ps ≡ same d.first ∷ same d.second ∷ same d.third ∷ same d.fourth ∷ after
  rest : x ≡ text side after

parts-after : (ps : List Part) (c : ℕ) (after : List Part) → ps ≡ same c ∷ after → AreParts ps → AreParts after
parts-after ps c after e h = (subst AreParts e h).1

begins-four : (side : Bool) (ps : List Part) (d : Four) (x : List ℕ) → AreParts ps → are_hexadecimal d ≡ true → text side ps ≡ four_text d ++ x
    → BeginsFour side ps d x
begins-four side ps d x k h e =
    let g = digits d h in
    let a = begins-digit side ps d.first (d.second ∷ d.third ∷ d.fourth ∷ x) k g.0 e in
    let ka = parts-after ps d.first a.after a.parts k in
    let b = begins-digit side a.after d.second (d.third ∷ d.fourth ∷ x) ka g.1 (sym a.rest) in
    let kb = parts-after a.after d.second b.after b.parts ka in
    let c = begins-digit side b.after d.third (d.fourth ∷ x) kb g.2 (sym b.rest) in
    let kc = parts-after b.after d.third c.after c.parts kb in
    let f = begins-digit side c.after d.fourth x kc g.3 (sym c.rest) in
    grind (arith, same)

-- If the text begins with the escape of a low surrogate, the first part is the `\u`.
record BeginsLow (side : Bool) (ps : List Part) (x : List ℕ) : Type 0 where
  after : List Part
  parts : ps ≡ after_backslash letter_u ∷ after
  rest : x ≡ text side after

low≢high : (n : ℕ) → is_low n ≡ true → is_high n ≡ true → ⊥
low≢high n h k = grind (arith)

low≢none : (n : ℕ) → is_low n ≡ true → is_surrogate n ≡ false → ⊥
low≢none n h k = grind (arith)

low-spelling : (s : Spelling) (y : List ℕ) (low : Four) (x : List ℕ) → IsWhole s → 0x80 ≤ spelling_character s → is_low (code_unit low) ≡ true
    → spelling_text s ++ y ≡ backslash ∷ letter_u ∷ four_text low ++ x → ⊥
low-spelling s y low x h1 h2 h3 h4 = search (rules, head-is, escaped-beyond, low≢none, low≢high)

begins-low : (side : Bool) (ps : List Part) (low : Four) (x : List ℕ) → AreParts ps → is_low (code_unit low) ≡ true
    → text side ps ≡ backslash ∷ letter_u ∷ four_text low ++ x → BeginsLow side ps (four_text low ++ x)
begins-low side [] low x k l e = absurd (cc)
begins-low side (same d ∷ ps) low x k l e = let f = (head-is d backslash (text side ps) (letter_u ∷ four_text low ++ x) e).0 in absurd (grind (arith))
begins-low side (after_backslash d ∷ ps) low x k l e = grind (arith, head-is)
begins-low side (past p q ∷ ps) low x k l e = absurd (low-spelling (on side p q) (text side ps) low x (on-whole side p q k.0) (on-beyond side p q k.0) l e)
begins-low side (lone ∷ ps) low x k l e = grind (arith, head-is)

-- ---- a `\u` that is a part

-- what begins at a `\u`, in parts
pub data AtUnit (ps : List Part) : Type 0 where
  one : (d : Four) (after : List Part) → are_hexadecimal d ≡ true → is_surrogate (code_unit d) ≡ false
      → ps ≡ same d.first ∷ same d.second ∷ same d.third ∷ same d.fourth ∷ after → AtUnit ps
  two : (high low : Four) (after : List Part) → are_hexadecimal high ≡ true → is_high (code_unit high) ≡ true → are_hexadecimal low ≡ true
      → is_low (code_unit low) ≡ true
      → ps ≡ same high.first ∷ same high.second ∷ same high.third ∷ same high.fourth ∷ after_backslash letter_u ∷ same low.first ∷ same low.second ∷ same low.third ∷ same low.fourth ∷ after
      → AtUnit ps

-- the first spelling of a text that a `\u` begins, in parts
pub at-first : (side : Bool) (ps : List Part) (s : Spelling) → AreParts ps → IsFirst (backslash ∷ letter_u ∷ text side ps) s → AtUnit ps
at-first side ps (itself c) k h = grind (arith, head-is)
at-first side ps (escaped c) k h = grind (arith, head-is)
at-first side ps (unicode d) k h =
    let f = (head-is letter_u letter_u _ _ (head-is backslash backslash (letter_u ∷ text side ps) (letter_u ∷ four_text d ++ h.rest) h.whole).1).1 in
    let b = begins-four side ps d h.rest k h.is_spelling.0 f in
    one d b.after h.is_spelling.0 h.is_spelling.1 b.parts
at-first side ps (surrogates high low) k h =
    let z = backslash ∷ letter_u ∷ four_text low ++ h.rest in
    let f = (head-is letter_u letter_u (text side ps) _ (head-is backslash backslash (letter_u ∷ text side ps) (letter_u ∷ four_text high ++ z) h.whole).1).1 in
    let b = begins-four side ps high z k h.is_spelling.0 f in
    let kb = four-after ps high b.after b.parts k in
    let c = begins-low side b.after low h.rest kb h.is_spelling.3 (sym b.rest) in
    let kc = (subst AreParts c.parts kb).1 in
    let a = begins-four side c.after low h.rest kc h.is_spelling.2 (sym c.rest) in
    two high low a.after h.is_spelling.0 h.is_spelling.1 h.is_spelling.2 h.is_spelling.3
    (b.parts ∙ ap (λ v. same high.first ∷ same high.second ∷ same high.third ∷ same high.fourth ∷ v) (c.parts ∙ ap (λ v. after_backslash letter_u ∷ v) a.parts))
  where
    four-after : (ps : List Part) (d : Four) (after : List Part) → ps ≡ same d.first ∷ same d.second ∷ same d.third ∷ same d.fourth ∷ after
        → AreParts ps → AreParts after
    four-after ps d after e h = (subst AreParts e h).1.1.1.1
at-first side ps last k h = grind (arith, head-is)

-- A text that a `\u` begins breaks, or what begins there is in parts.
at-unit : (side : Bool) (ps : List Part) (x : List ℕ) → AreParts ps → meaning_of (backslash ∷ letter_u ∷ text side ps) ≡ means x → AtUnit ps
at-unit side ps x k h = found (first_spelling backslash (letter_u ∷ text side ps)) refl
  where
    found : (o : Option Spelling) → first_spelling backslash (letter_u ∷ text side ps) ≡ o → AtUnit ps
    found None e = grind (arith, means≢breaks, meaning_of-fault, spelling_of-none)
    found (Some s) e = at-first side ps s k (subst (IsFound (backslash ∷ letter_u ∷ text side ps)) e (first_spelling-found backslash (letter_u ∷ text side ps)))

-- ---- all parts

carries-by : (m n k l : Meaning) → m ≡ k → n ≡ l → Carries k l → Carries m n
carries-by m n k l e f h x g = f ∙ h x (sym e ∙ g)

-- whole spellings of one character in front
carries-spelling : (s t : Spelling) (x y : List ℕ) → IsSpelling s x → IsSpelling t y → spelling_character s ≡ spelling_character t
    → Carries (meaning_of x) (meaning_of y) → Carries (meaning_of (spelling_text s ++ x)) (meaning_of (spelling_text t ++ y))
carries-spelling s t x y h k e c = search (rules, carries-by, meaning_of-spelling)

on-alike : (side : Bool) (p q : Spelling) → IsPast p q → spelling_character (on side p q) ≡ spelling_character (on (not side) p q)
on-alike side p q h1 = grind (arith)

CarriesParts : Bool → List Part → Type 0
CarriesParts side ps = Carries (meaning_of (text side ps)) (meaning_of (text (not side) ps))

carries : (n : ℕ) (side : Bool) (ps : List Part) → length ps ≤ n → AreParts ps → CarriesParts side ps
unfolding CarriesParts
carries n side [] z h = λ x e. e
carries zero side (p ∷ ps) z h = absurd (omega arith)
carries (suc n) side (same c ∷ ps) z h = carries-spelling (itself c) (itself c) (text side ps) _ h.0 h.0 refl (carries n side ps (omega arith) h.1)
carries (suc n) side (past p q ∷ ps) z h = search (rules, carries-spelling, IsWhole-spelling, on-whole, on-alike, carries n side ps (omega arith) h.1)
carries (suc n) side (lone ∷ ps) z h = rw h.0 (λ x e. e)
carries (suc n) side (after_backslash c ∷ ps) z h = elim (cases_Bool (c == letter_u)) [
  | inl e ↦ rw (eqb-true c letter_u e) (λ x m. elim (at-unit side ps x h.1 m) [
    | one d after a b f ↦
        let g = ap length f in
        let k : AreParts after = (subst AreParts f h.1).1.1.1.1 in
        carries-by (meaning_of (backslash ∷ letter_u ∷ text side ps)) (meaning_of (backslash ∷ letter_u ∷ text (not side) ps))
        (meaning_of (spelling_text (unicode d) ++ text side after)) (meaning_of (spelling_text (unicode d) ++ text (not side) after))
        (ap (λ v. meaning_of (backslash ∷ letter_u ∷ text side v)) f) (ap (λ v. meaning_of (backslash ∷ letter_u ∷ text (not side) v)) f)
        (carries-spelling (unicode d) (unicode d) (text side after) (text (not side) after) (a, b) (a, b) refl (carries n side after (omega arith) k)) x m
    | two high low after a b c d f ↦
        let g = ap length f in
        let k : AreParts after = (subst AreParts f h.1).1.1.1.1.1.1.1.1.1 in
        carries-by (meaning_of (backslash ∷ letter_u ∷ text side ps)) (meaning_of (backslash ∷ letter_u ∷ text (not side) ps))
        (meaning_of (spelling_text (surrogates high low) ++ text side after)) (meaning_of (spelling_text (surrogates high low) ++ text (not side) after))
        (ap (λ v. meaning_of (backslash ∷ letter_u ∷ text side v)) f) (ap (λ v. meaning_of (backslash ∷ letter_u ∷ text (not side) v)) f)
        (carries-spelling (surrogates high low) (surrogates high low) _ _ (a, b, c, d) (a, b, c, d) refl (carries n side after (omega arith) k)) x m
  ])
  | inr e ↦ carries-spelling (escaped c) (escaped c) (text side ps) (text (not side) ps) e e refl (carries n side ps (omega arith) h.1)
]

-- How two texts mean alike: the same characters, or both break.
pub data MeanAlike : Meaning → Meaning → Type 0 where
  both_mean : (x : List ℕ) → MeanAlike (means x) (means x)
  both_break : (k l : Malformed) → MeanAlike (breaks k) (breaks l)

alike-of : (m n : Meaning) → Carries m n → Carries n m → MeanAlike m n
alike-of (means x) n h k = subst (MeanAlike (means x)) (sym (h x refl)) (both_mean x)
alike-of (breaks a) (means y) h k = absurd (means≢breaks y a (k y refl))
alike-of (breaks a) (breaks b) h k = both_break a b

-- The two texts of parts mean alike.
pub mean-alike : (ps : List Part) → AreParts ps → MeanAlike (meaning_of (text false ps)) (meaning_of (text true ps))
unfolding CarriesParts
mean-alike ps h = grind (arith, alike-of, carries)
