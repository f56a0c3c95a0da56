-- The ends of lines, as they are found one after another.
use Rattle.std.specs.Prelude.{◌≡◌, ℕ, ◌+◌, ◌-◌, ◌<◌, ◌≤◌, ◌==◌, ◌&&◌, ◌||◌, not, Bool, true, false, if◌then◌else◌, List, [], ◌∷◌, ◌++◌, length, take, drop, reverse, Option, Some, None}
use Rattle.properties_format.specs.Text.{backslash, begins, form_feed, is_empty, space, tab}
use Rattle.properties_format.specs.{Lines.is_comment_line, Lines.is_open, Body.HeldLine, Encoding.Encoding, Encoding.ascii_bytes, Computed.Body.held_lines_of}
use Rattle.properties_format.specs.Computed.Cut.{decoded_line}
use Rattle.properties_lines.specs.{LineSearch.unit_size, Private.HeldLines.held_lines_left, Scanner.GivesScannedLine, declared.scanner.Scanner.Scanner}
use Rattle.properties_tables.specs.{Lines.holds_byte, Private.Flawed.IsScanning}
use Rattle.properties_checking.specs.{Misread.misread_at, Misread.misread_end, Misread.AreMisreadEnds, Private.Checking.misread_finding}
use Rattle.properties_checking.specs.{declared.check.Finding.Finding, declared.misread.Misread.Misread}

-- ---- one line after another

-- whether a line is a comment line, where the flag says whether the line before it is continued
abbrev pub is_comment_after : Bool → List ℕ → Bool
is_comment_after is_joined text = not is_joined && is_comment_line text

-- whether the line is continued
abbrev pub joins_next : Bool → List ℕ → Bool
joins_next is_joined text = not (is_comment_after is_joined text) && is_open text

-- whether these are no lines, or an empty one
abbrev pub is_end : List HeldLine → Bool
is_end [] = true
is_end (h ∷ []) = is_empty h.text
is_end (h ∷ i ∷ hs) = false

-- what is reported of a line, given those after it
abbrev pub said_end : Bool → List ℕ → Bool → Option Misread
said_end is_joined text is_last = if is_comment_after is_joined text then None else misread_end text is_last

module _ {X : Type 0} (of : Misread → ℕ → X) where
  -- the findings on the lines after so many
  abbrev pub ends_from : Bool → ℕ → List HeldLine → List X
  ends_from is_joined n [] = []
  ends_from is_joined n (h ∷ hs) =
      misread_at of (n + 1) (said_end is_joined h.text (is_end hs)) ++ ends_from (joins_next is_joined h.text) (n + 1) hs

-- The findings on the ends of lines come after the others.
abbrev pub AddsEnds : Encoding → List ℕ → List Finding → List Finding → Type 0
AddsEnds e source old new = (ends : List Finding) × AreMisreadEnds misread_finding e source ends × (new ≡ old ++ ends)

-- The next line is found, if there is one.
pub record FindsNumber (body : List ℕ) (old : Scanner) (number : ℕ) (new : Scanner) : Type 0 where
  pub gives : GivesScannedLine old body true new
  pub scanning : IsScanning body new
  pub is : number ≡ new.passed

abbrev pub FindsOpenLine : List ℕ → Scanner → Option ℕ → Scanner → Type 0
FindsOpenLine body old None new = held_lines_left body old ≡ []
FindsOpenLine body old (Some number) new = FindsNumber body old number new

-- ---- a body that has none

-- whether this byte comes after a backslash
abbrev pub holds_pair : ℕ → List ℕ → Bool
holds_pair byte [] = false
holds_pair byte (b ∷ bs) = (b == backslash && begins (λ c. c == byte) bs) || holds_pair byte bs

-- whether a blank does, or one of the last three bytes is a backslash
abbrev pub may_end_line : List ℕ → Bool
may_end_line bytes =
    holds_byte backslash (drop (length bytes - 3) bytes)
    || (holds_pair space bytes || (holds_pair tab bytes || holds_pair form_feed bytes))

-- There are no findings on the ends of the lines of a body, or there may be some.
abbrev pub SeesNone : Encoding → List ℕ → Bool → Type 0
SeesNone e body true = Unit {0}
SeesNone e body false = ends_from misread_finding false 0 (held_lines_of e body) ≡ []

-- ---- ASCII characters

-- The bytes are the unit of an ASCII character, or of none.
abbrev pub IsAsciiUnit : Encoding → List ℕ → Option ℕ → Type 0
IsAsciiUnit e unit (Some c) = (c < 0x80) × (unit ≡ ascii_bytes e c)
IsAsciiUnit e unit None = (c : ℕ) → c < 0x80 → unit ≡ ascii_bytes e c → ⊥

-- The text of the bytes ends in this ASCII character, or in none.
abbrev pub EndsInAscii : Encoding → List ℕ → Option ℕ → Type 0
EndsInAscii e bytes (Some c) =
    (c < 0x80) × (unit_size e ≤ length bytes)
    × (reverse (decoded_line e bytes) ≡ c ∷ reverse (decoded_line e (take (length bytes - unit_size e) bytes)))
EndsInAscii e bytes None = (c : ℕ) (y : List ℕ) → c < 0x80 → reverse (decoded_line e bytes) ≡ c ∷ y → ⊥

-- It begins with this one, or with none.
abbrev pub BeginsWithAscii : Encoding → List ℕ → Option ℕ → Type 0
BeginsWithAscii e bytes (Some c) =
    (c < 0x80) × (unit_size e ≤ length bytes) × (decoded_line e bytes ≡ c ∷ decoded_line e (drop (unit_size e) bytes))
BeginsWithAscii e bytes None = (c : ℕ) (y : List ℕ) → c < 0x80 → decoded_line e bytes ≡ c ∷ y → ⊥
