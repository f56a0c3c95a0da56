-- What is printed for a text means that text, contains no line ending, and doesn't end in an open backslash.
use Rattle.std.proofs.Common.{rules, ◌≡◌, ℕ, ◌==◌, true, false, List, [], ◌∷◌, ◌++◌, map, refl, ap, sym, ◌∙◌, inl, inr, append_assoc, append-nil, arith, eqb-true, ap₂}
use Rattle.std.specs.List.{AllByRecursion}
use Rattle.std.proofs.lemmas.Bool.{cases_Bool}
use Rattle.properties_format.specs.Text.{scalar, backslash, is_blank, is_comment_sign, is_separator, begins}
use Rattle.properties_format.specs.Encoding.{Repertoire}
use Rattle.properties_format.specs.Lines.{HoldsNoLineEnding, is_open}
use Rattle.properties_format.specs.Split.{IsKey}
use Rattle.properties_format.specs.Escapes.{letter_u, Four, four_text, are_hexadecimal, Spelling, itself, escaped, unicode, surrogates, last, spelling_text, spelling_character, spellings_before, means}
use Rattle.properties_format.specs.Computed.Escapes.{meaning_of}
use Rattle.properties_format.specs.Printing.{in_key_or_value, printed_characters}
use Rattle.properties_format.proofs.Lines.Plain.{plain-append}
use Rattle.properties_format.proofs.Groups.Open.{is_open-two, is_open-other}
use Rattle.properties_format.proofs.Split.Laws.{IsKey-nil, IsKey-plain, IsKey-escaped, IsKey-unicode}
use Rattle.properties_format.proofs.Escapes.Digits.{hexadecimal-plain, digits, digit-plain}
use Rattle.properties_format.proofs.Escapes.Laws.{IsWhole, AreWhole, meaning_of-all}
use Rattle.properties_format.proofs.ReadBack.Spellings.{IsSafe, IsSafelyPrinted, in_key_or_value-printed}

abbrev pub AreSafe : List Spelling → Type 0
AreSafe [] = Unit {0}
AreSafe (p ∷ ps) = IsSafe p × AreSafe ps

-- x is the text of safe spellings of y.
pub record AreSafelyPrinted (x y : List ℕ) : Type 0 where
  pub spellings : List Spelling
  pub text : x ≡ spellings_before spellings []
  pub characters : map spelling_character spellings ≡ y
  pub safe : AreSafe spellings

-- One more character at the front.
pub printed-cons : (x y : List ℕ) (c : ℕ) (cs : List ℕ) → IsSafelyPrinted x c → AreSafelyPrinted y cs → AreSafelyPrinted (x ++ y) (c ∷ cs)
printed-cons x y c cs s t =
    record { spellings = s.spelling ∷ t.spellings; text = ap₂ (λ v w. v ++ w) s.text t.text; characters = ap₂ (λ v w. v ∷ w) s.character t.characters; safe = (s.safe, t.safe) }

-- The rest of a text of scalar values.
pub rest-scalars : (x y : List ℕ) → AllByRecursion scalar (x ++ y) → AllByRecursion scalar y
rest-scalars [] y h = h
rest-scalars (c ∷ x) y h = rest-scalars x y h.1

-- what is printed for a key or a value is safely spelt
pub texts-printed : (r : Repertoire) (x : List ℕ) → AllByRecursion scalar x → AreSafelyPrinted (printed_characters r in_key_or_value x) x
texts-printed r [] h = record { spellings = []; text = refl; characters = refl; safe = tt }
texts-printed r (c ∷ x) h = search (rules, printed-cons, in_key_or_value-printed, texts-printed r x h.1)

-- ---- what they mean

-- a safe spelling is whole
pub safe-whole : (p : Spelling) → IsSafe p → IsWhole p
safe-whole p h = grind (arith)

-- Safe spellings are whole.
are_safe-whole : (ps : List Spelling) → AreSafe ps → AreWhole ps
are_safe-whole [] h = tt
are_safe-whole (p ∷ ps) h = (safe-whole p h.0, are_safe-whole ps h.1)

-- A safely spelt text means what it spells.
pub printed-means : (x y : List ℕ) → AreSafelyPrinted x y → meaning_of x ≡ means y
printed-means x y s = ap meaning_of s.text ∙ meaning_of-all s.spellings (are_safe-whole s.spellings s.safe) ∙ ap means s.characters

-- ---- no line ending

-- A safe spelling contains no line ending.
pub safe-plain : (p : Spelling) → IsSafe p → HoldsNoLineEnding (spelling_text p)
safe-plain p h = search (rules, digits, digit-plain)

-- Safe spellings contain no line ending.
are_safe-plain : (ps : List Spelling) → AreSafe ps → HoldsNoLineEnding (spellings_before ps [])
are_safe-plain [] h = tt
are_safe-plain (p ∷ ps) h = plain-append (spelling_text p) (spellings_before ps []) (safe-plain p h.0) (are_safe-plain ps h.1)

-- A safely spelt text contains no line ending.
pub printed-plain : (x y : List ℕ) → AreSafelyPrinted x y → HoldsNoLineEnding x
printed-plain x y s = rw s.text (are_safe-plain s.spellings s.safe)

-- ---- no open backslash

-- A text that isn't open, followed by one that ends in a character other than a backslash, isn't open.
other-closed : (x y : List ℕ) (c : ℕ) → (c == backslash) ≡ false → is_open (x ++ (y ++ c ∷ [])) ≡ false
other-closed x y c h = ap is_open (sym (append_assoc x y (c ∷ []))) ∙ is_open-other (x ++ y) c h

-- A text that isn't open, followed by one that ends in a `\u` escape, isn't open.
unit-closed : (x y : List ℕ) (d : Four) → are_hexadecimal d ≡ true → is_open (x ++ (y ++ (backslash ∷ letter_u ∷ four_text d))) ≡ false
unit-closed x y d h =
    ap (λ v. is_open (x ++ v)) (sym (append_assoc y (backslash ∷ letter_u ∷ d.first ∷ d.second ∷ d.third ∷ []) (d.fourth ∷ [])))
    ∙ other-closed x (y ++ (backslash ∷ letter_u ∷ d.first ∷ d.second ∷ d.third ∷ [])) d.fourth (hexadecimal-plain d.fourth (digits d h).3).0

-- A text that isn't open, followed by a safe spelling, isn't open.
pub safe-closed : (p : Spelling) (x : List ℕ) → IsSafe p → is_open x ≡ false → is_open (x ++ spelling_text p) ≡ false
safe-closed (itself c) x h o = is_open-other x c h.0
safe-closed (escaped c) x h o = elim (cases_Bool (c == backslash)) [
  | inl k ↦ rw (eqb-true c backslash k) (is_open-two x ∙ o)
  | inr k ↦ other-closed x (backslash ∷ []) c k
]
safe-closed (unicode d) x h o = unit-closed x [] d h.0
safe-closed (surrogates high low) x h o = unit-closed x (backslash ∷ letter_u ∷ four_text high) low h.2
safe-closed last x h o = absurd h

-- A text that isn't open, followed by safe spellings, isn't open.
are_safe-closed : (ps : List Spelling) (x : List ℕ) → AreSafe ps → is_open x ≡ false → is_open (x ++ spellings_before ps []) ≡ false
are_safe-closed [] x h o = ap is_open (append-nil x) ∙ o
are_safe-closed (p ∷ ps) x h o = grind (arith, append_assoc, are_safe-closed ps (x ++ spelling_text p) h.1 (safe-closed p x h.0 o), safe-closed)

-- A safely spelt text isn't open.
pub printed-closed : (x y : List ℕ) → AreSafelyPrinted x y → is_open x ≡ false
printed-closed x y s = ap is_open s.text ∙ are_safe-closed s.spellings [] s.safe refl

-- ---- a key, and how it begins

-- A safe spelling at the front of a key.
safe-key : (p : Spelling) (y rest : List ℕ) → IsSafe p → IsKey y rest → IsKey (spelling_text p ++ y) rest
safe-key (itself c) y rest h k = IsKey-plain c y rest h.0 h.1 h.2 k
safe-key (escaped c) y rest h k = IsKey-escaped c y rest k
safe-key (unicode d) y rest h k = IsKey-unicode d y rest h.0 k
safe-key (surrogates high low) y rest h k = IsKey-unicode high (backslash ∷ letter_u ∷ four_text low ++ y) rest h.0 (IsKey-unicode low y rest h.2 k)
safe-key last y rest h k = absurd h

-- Safe spellings are a key, whatever follows.
pub are_safe-key : (ps : List Spelling) (rest : List ℕ) → AreSafe ps → IsKey (spellings_before ps []) rest
are_safe-key [] rest h = IsKey-nil rest
are_safe-key (p ∷ ps) rest h = safe-key p (spellings_before ps []) rest h.0 (are_safe-key ps rest h.1)

-- The text doesn't begin with a blank, a separator or a comment sign.
pub record BeginsFull (x : List ℕ) : Type 0 where
  pub no_blank : begins is_blank x ≡ false
  pub no_separator : begins is_separator x ≡ false
  pub no_sign : begins is_comment_sign x ≡ false

-- A text with a safe spelling at its front doesn't begin with a blank, a separator or a comment sign.
pub safe-begins : (p : Spelling) (y : List ℕ) → IsSafe p → BeginsFull (spelling_text p ++ y)
safe-begins p y h = grind (arith)

-- The text of safe spellings doesn't begin with a blank, a separator or a comment sign.
pub are_safe-begin : (ps : List Spelling) → AreSafe ps → BeginsFull (spellings_before ps [])
are_safe-begin [] h = record { no_blank = refl; no_separator = refl; no_sign = refl }
are_safe-begin (p ∷ ps) h = safe-begins p (spellings_before ps []) h.0
