-- What is found in an input, one logical line after another, such as its malformed escapes, its pairs or their keys.
use Rattle.std.specs.Prelude.{◌≡◌, ℕ, List, [], ◌∷◌, Bool}
use Rattle.properties_format.specs.Encoding.{Encoding}
use Rattle.properties_format.specs.Lines.{InputEnd, Line, HasGroups, joined, first_number, end, is_comment_line}
use Rattle.properties_format.specs.Items.{Outcome, IsOutcome, broken}
use Rattle.properties_format.specs.Escapes.{Malformed}

-- This is found in the groups, in order. What is found in a logical line depends on its number, text and outcome, and
-- `before` puts it before what is found in those after it.
abbrev pub AreFoundIn : {A : Type 0} → (ℕ → List ℕ → Outcome → List A → List A) → List (List Line) → List A → Type 0
AreFoundIn before [] found = found ≡ []
AreFoundIn {A} before (group ∷ groups) found =
    (outcome : Outcome) × (rest : List A) × IsOutcome (joined group) outcome
    × (found ≡ before (first_number group) (joined group) outcome rest) × AreFoundIn before groups rest

-- This is found in an input in an encoding, up to this ending: the input has groups, and it is found in these.
pub record AreFound {A : Type 0} (before : ℕ → List ℕ → Outcome → List A → List A) (e : Encoding) (bytes : List ℕ) (ending : InputEnd) (found : List A) : Type 0 where
  pub groups : List (List Line)
  pub has_groups : HasGroups e bytes ending groups
  pub are_found : AreFoundIn before groups found

-- ---- The malformed escapes of an input: the first one of each logical line that has any, in order, to its end.
-- Source: java.util.Properties of Java SE 7, load.

-- the first malformed escape of a logical line: the line number, how the escape is malformed, and whether the line is a
-- comment
pub record MalformedEscape : Type 0 where
  pub number : ℕ
  pub kind : Malformed
  pub in_comment : Bool

-- the escapes of a logical line, given its number, text and outcome, and those of the lines after it
abbrev pub escapes_from : ℕ → List ℕ → Outcome → List MalformedEscape → List MalformedEscape
escapes_from number x (broken kind) rest = record { number = number; kind = kind; in_comment = is_comment_line x } ∷ rest
escapes_from number x outcome rest = rest

-- These are the malformed escapes of an input in an encoding.
abbrev pub AreMalformedEscapes : Encoding → List ℕ → List MalformedEscape → Type 0
AreMalformedEscapes e bytes escapes = AreFound escapes_from e bytes end escapes
