-- Texts that differ only in the spellings of non-ASCII characters.
use Rattle.std.proofs.Common.{◌≡◌, ℕ, ◌==◌, ◌≤◌, Bool, true, false, List, [], ◌∷◌, ◌++◌, refl, ap, sym, ◌∙◌, append_assoc, arith}
use Rattle.properties_format.specs.Text.{backslash}
use Rattle.properties_format.specs.Escapes.{escaped_character, Spelling, spelling_text, spelling_character}
use Rattle.properties_format.proofs.Escapes.Laws.{IsWhole}

-- A part of two texts: a character that is no backslash; a backslash and a character; a non-ASCII character, in two
-- spellings; or a backslash at the end.
pub data Part : Type 0 where
  same : ℕ → Part
  after_backslash : ℕ → Part
  past : Spelling → Spelling → Part
  lone : Part

-- the spelling on a side
abbrev pub on : Bool → Spelling → Spelling → Spelling
on false p q = p
on true p q = q

-- the text of a part, on a side
abbrev pub part_text : Bool → Part → List ℕ
part_text side (same c) = c ∷ []
part_text side (after_backslash c) = backslash ∷ c ∷ []
part_text side (past p q) = spelling_text (on side p q)
part_text side lone = backslash ∷ []

-- the text of parts, on a side
abbrev pub text : Bool → List Part → List ℕ
text side [] = []
text side (p ∷ ps) = part_text side p ++ text side ps

-- Two whole spellings of one non-ASCII character.
pub record IsPast (p q : Spelling) : Type 0 where
  pub one : IsWhole p
  pub other : IsWhole q
  pub alike : spelling_character p ≡ spelling_character q
  pub beyond : 0x80 ≤ spelling_character p

-- The part may come before these parts.
abbrev pub IsPart : Part → List Part → Type 0
IsPart (same c) ps = (c == backslash) ≡ false
IsPart (after_backslash c) ps = Unit {0}
IsPart (past p q) ps = IsPast p q
IsPart lone ps = ps ≡ []

-- Each part may come before those after it.
abbrev pub AreParts : List Part → Type 0
AreParts [] = Unit {0}
AreParts (p ∷ ps) = IsPart p ps × AreParts ps

-- ---- a spelling of a non-ASCII character

-- the spelling on a side is whole, and of a non-ASCII character
pub on-whole : (side : Bool) (p q : Spelling) → IsPast p q → IsWhole (on side p q)
on-whole false p q h = h.one
on-whole true p q h = h.other

pub on-beyond : (side : Bool) (p q : Spelling) → IsPast p q → 0x80 ≤ spelling_character (on side p q)
on-beyond false p q h = h.beyond
on-beyond true p q h = rw (← h.alike) h.beyond

-- A character whose escaped form is non-ASCII is non-ASCII.
pub escaped-beyond : (c : ℕ) → 0x80 ≤ escaped_character c → 0x80 ≤ c
escaped-beyond c h = grind (arith)

-- What follows two parts.
pub text-append : (side : Bool) (ps qs : List Part) → text side (ps ++ qs) ≡ text side ps ++ text side qs
text-append side [] qs = refl
text-append side (p ∷ ps) qs = ap (λ v. part_text side p ++ v) (text-append side ps qs) ∙ sym (append_assoc (part_text side p) (text side ps) (text side qs))
