-- What is printed for a value as people write it: it means the value, and can follow what separates the key from the
-- value.
use Rattle.std.proofs.Common.{rules, ◌≡◌, ◌⊎◌, ℕ, ◌==◌, ◌&&◌, ◌||◌, Bool, true, false, List, [], ◌∷◌, ◌++◌, map, refl, ap, ap₂, sym, ◌∙◌, inl, inr, append_assoc, append-nil, eqb-true, lit<, subst, arith}
use Rattle.std.specs.List.{AllByRecursion}
use Rattle.std.proofs.lemmas.Bool.{cond_both}
use Rattle.properties_format.specs.Text.{scalar, space, backslash, is_blank, is_line_ending, is_separator, is_empty, begins}
use Rattle.properties_format.specs.Encoding.{Repertoire}
use Rattle.properties_format.specs.Lines.{HoldsNoLineEnding, is_open}
use Rattle.properties_format.specs.Escapes.{Spelling, itself, spelling_text, spelling_character, spellings_before, means}
use Rattle.properties_format.specs.Computed.Escapes.{meaning_of}
use Rattle.properties_format.specs.Printing.{in_key_or_value, unit_escape, printed_character, is_free, printed_inside, printed_first, printed_last, printed_rest, printed_value}
use Rattle.properties_format.proofs.Lines.Plain.{plain-append}
use Rattle.properties_format.proofs.Groups.Open.{is_open-other}
use Rattle.properties_format.proofs.Escapes.Laws.{AreWhole, meaning_of-all}
use Rattle.properties_format.proofs.Printing.Characters.{free-plain, first-special}
use Rattle.properties_format.proofs.ReadBack.Spellings.{IsSafe, IsSafelyPrinted, special-printed, unicode-printed, in_key_or_value-printed}
use Rattle.properties_format.proofs.ReadBack.Texts.{safe-plain, safe-closed, safe-begins}

-- ---- spellings that may be used in such a value

-- a loose spelling: a safe one, or a character as itself, which isn't a backslash or a line ending
abbrev IsLoose : Spelling → Type 0
IsLoose p = IsSafe p ⊎ ((c : ℕ) × (p ≡ itself c) × ((c == backslash) ≡ false) × (is_line_ending c ≡ false))

-- each of these spellings is loose
abbrev AreLoose : List Spelling → Type 0
AreLoose [] = Unit {0}
AreLoose (p ∷ ps) = IsLoose p × AreLoose ps

-- x is a loose spelling of c.
record IsLooselyPrinted (x : List ℕ) (c : ℕ) : Type 0 where
  spelling : Spelling
  text : x ≡ spelling_text spelling
  character : spelling_character spelling ≡ c
  loose : IsLoose spelling

-- x is the text of loose spellings of y.
pub record AreLooselyPrinted (x y : List ℕ) : Type 0 where
  spellings : List Spelling
  text : x ≡ spellings_before spellings []
  characters : map spelling_character spellings ≡ y
  loose : AreLoose spellings

-- One more character at the front.
loose-cons : (x y : List ℕ) (c : ℕ) (cs : List ℕ) → IsLooselyPrinted x c → AreLooselyPrinted y cs → AreLooselyPrinted (x ++ y) (c ∷ cs)
loose-cons x y c cs s t =
    record { spellings = s.spelling ∷ t.spellings; text = ap₂ (λ v w. v ++ w) s.text t.text; characters = ap₂ (λ v w. v ∷ w) s.character t.characters; loose = (s.loose, t.loose) }

-- A single character.
loose-one : (x : List ℕ) (c : ℕ) → IsLooselyPrinted x c → AreLooselyPrinted x (c ∷ [])
loose-one x c s = record { spellings = s.spelling ∷ []; text = s.text ∙ sym (append-nil _); characters = ap (λ v. v ∷ []) s.character; loose = (s.loose, tt) }

-- A safe spelling is loose.
safely-loose : (x : List ℕ) (c : ℕ) → IsSafelyPrinted x c → IsLooselyPrinted x c
safely-loose x c s = record { spelling = s.spelling; text = s.text; character = s.character; loose = inl s.safe }

-- ---- what they mean

-- Loose spellings are whole.
are_loose-whole : (ps : List Spelling) → AreLoose ps → AreWhole ps
are_loose-whole [] h = tt
are_loose-whole (p ∷ ps) h = (search (rules), are_loose-whole ps h.1)

-- A loosely spelt text means what it spells.
pub loose-means : (x y : List ℕ) → AreLooselyPrinted x y → meaning_of x ≡ means y
loose-means x y s = ap meaning_of s.text ∙ meaning_of-all s.spellings (are_loose-whole s.spellings s.loose) ∙ ap means s.characters

-- Loose spellings contain no line ending.
are_loose-plain : (ps : List Spelling) → AreLoose ps → HoldsNoLineEnding (spellings_before ps [])
are_loose-plain [] h = tt
are_loose-plain (p ∷ ps) h = plain-append (spelling_text p) (spellings_before ps []) (search (rules, safe-plain)) (are_loose-plain ps h.1)

-- A loosely spelt text contains no line ending.
pub loosely-plain : (x y : List ℕ) → AreLooselyPrinted x y → HoldsNoLineEnding x
loosely-plain x y s = rw s.text (are_loose-plain s.spellings s.loose)

-- A loose spelling leaves no line open.
loose-closed : (p : Spelling) (x : List ℕ) → IsLoose p → is_open x ≡ false → is_open (x ++ spelling_text p) ≡ false
loose-closed p x h k = grind (arith, safe-closed, is_open-other)

-- Loose spellings leave no line open.
are_loose-closed : (ps : List Spelling) (x : List ℕ) → AreLoose ps → is_open x ≡ false → is_open (x ++ spellings_before ps []) ≡ false
are_loose-closed [] x h o = ap is_open (append-nil x) ∙ o
are_loose-closed (p ∷ ps) x h o = grind (arith, append_assoc, are_loose-closed ps (x ++ spelling_text p) h.1 (loose-closed p x h.0 o), loose-closed)

-- A loosely spelt text leaves no line open.
pub loosely-closed : (x y z : List ℕ) → AreLooselyPrinted y z → is_open x ≡ false → is_open (x ++ y) ≡ false
loosely-closed x y z s o = ap (λ v. is_open (x ++ v)) s.text ∙ are_loose-closed s.spellings x s.loose o

-- ---- each character

-- A character inside a value is loosely spelt.
inside-loose : (r : Repertoire) (c : ℕ) → scalar c → IsLooselyPrinted (printed_inside r c) c
inside-loose r c h =
    cond_both (is_free c) (c ∷ []) (printed_character r in_key_or_value c) (λ x. IsLooselyPrinted x c)
    (λ k. let f = free-plain c k in record { spelling = itself c; text = refl; character = refl; loose = inr (c, refl, f.0, f.1) })
    (λ k. safely-loose (printed_character r in_key_or_value c) c (in_key_or_value-printed r c h))

-- A character at the front of a value is loosely spelt.
first-loose : (r : Repertoire) (after_blanks : Bool) (c : ℕ) → scalar c → IsLooselyPrinted (printed_first r after_blanks c) c
first-loose r after_blanks c h =
    cond_both (c == space || (after_blanks && is_separator c)) (backslash ∷ c ∷ []) (printed_inside r c) (λ x. IsLooselyPrinted x c)
    (λ k. safely-loose (backslash ∷ c ∷ []) c (special-printed c (first-special after_blanks c k))) (λ k. inside-loose r c h)

-- A space as `\u0020` is loosely spelt.
space-loose : (c : ℕ) → (c == space) ≡ true → IsLooselyPrinted (unit_escape space) c
space-loose c k = rw (eqb-true c space k) (safely-loose (unit_escape space) space (unicode-printed space (inl (lit< tt))))

-- A character at the end of a value is loosely spelt.
last-loose : (r : Repertoire) (c : ℕ) → scalar c → IsLooselyPrinted (printed_last r c) c
last-loose r c h = cond_both (c == space) (unit_escape space) (printed_inside r c) (λ x. IsLooselyPrinted x c) (λ k. space-loose c k) (λ k. inside-loose r c h)

-- The characters after the first are loosely spelt.
rest-loose : (r : Repertoire) (cs : List ℕ) → AllByRecursion scalar cs → AreLooselyPrinted (printed_rest r cs) cs
rest-loose r [] h = record { spellings = []; text = refl; characters = refl; loose = tt }
rest-loose r (c ∷ []) h = loose-one (printed_last r c) c (last-loose r c h.0)
rest-loose r (c ∷ d ∷ cs) h = loose-cons (printed_inside r c) (printed_rest r (d ∷ cs)) c (d ∷ cs) (inside-loose r c h.0) (rest-loose r (d ∷ cs) h.1)

-- The test for a value that is a single space.
alone-space : (c : ℕ) (cs : List ℕ) → (is_empty cs && c == space) ≡ true → (cs ≡ []) × ((c == space) ≡ true)
alone-space c cs h = grind (arith)

-- What is printed for a value is loosely spelt.
pub value-loose : (r : Repertoire) (after_blanks : Bool) (value : List ℕ) → AllByRecursion scalar value
    → AreLooselyPrinted (printed_value r after_blanks value) value
value-loose r after_blanks [] h = record { spellings = []; text = refl; characters = refl; loose = tt }
value-loose r after_blanks (c ∷ cs) h =
    cond_both (is_empty cs && c == space) (unit_escape space) (printed_first r after_blanks c ++ printed_rest r cs) (λ x. AreLooselyPrinted x (c ∷ cs))
    (λ k. let a = alone-space c cs k in subst (λ v. AreLooselyPrinted (unit_escape space) (c ∷ v)) (sym a.0) (loose-one _ c (space-loose c a.1)))
    (λ k. loose-cons (printed_first r after_blanks c) (printed_rest r cs) c cs (first-loose r after_blanks c h.0) (rest-loose r cs h.1))

-- ---- how it begins

-- The text doesn't begin with a blank, and after blanks it doesn't begin with a separator.
pub record BeginsAfter (after_blanks : Bool) (x : List ℕ) : Type 0 where
  pub no_blank : begins is_blank x ≡ false
  pub no_separator : after_blanks ≡ true → begins is_separator x ≡ false

-- The first character of a value, before any text.
first-begins : (r : Repertoire) (after_blanks : Bool) (c : ℕ) (y : List ℕ) → scalar c → BeginsAfter after_blanks (printed_first r after_blanks c ++ y)
first-begins r after_blanks c y h =
    cond_both (c == space || (after_blanks && is_separator c)) (backslash ∷ c ∷ []) (printed_inside r c) (λ x. BeginsAfter after_blanks (x ++ y))
    (λ k. record { no_blank = refl; no_separator = λ q. refl })
    (λ k. cond_both (is_free c) (c ∷ []) (printed_character r in_key_or_value c) (λ x. BeginsAfter after_blanks (x ++ y))
    (λ m. search (rules))
    (λ m. let s = in_key_or_value-printed r c h in
    let b = safe-begins s.spelling y s.safe in
    subst (λ x. BeginsAfter after_blanks (x ++ y)) (sym s.text) (record { no_blank = b.no_blank; no_separator = λ q. b.no_separator })))

-- What is printed for a value doesn't begin with a blank, and after blanks it doesn't begin with a separator.
pub value-begins : (r : Repertoire) (after_blanks : Bool) (value : List ℕ) → AllByRecursion scalar value
    → BeginsAfter after_blanks (printed_value r after_blanks value)
value-begins r after_blanks [] h = record { no_blank = refl; no_separator = λ q. refl }
value-begins r after_blanks (c ∷ cs) h =
    cond_both (is_empty cs && c == space) (unit_escape space) (printed_first r after_blanks c ++ printed_rest r cs) (BeginsAfter after_blanks)
    (λ k. record { no_blank = refl; no_separator = λ q. refl }) (λ k. first-begins r after_blanks c (printed_rest r cs) h.0)
