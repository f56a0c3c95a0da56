-- The lines of a body that have a flaw, as they are found one after another.
use Rattle.std.specs.Prelude.{◌≡◌, ℕ, ◌+◌, ◌≤◌, ◌&&◌, ◌||◌, ◌==◌, not, nat_lt, Bool, true, false, if◌then◌else◌, List, [], ◌∷◌, length, Option, Some, None}
use Rattle.std.specs.Str.{is_utf8}
use Rattle.properties_format.specs.Body.{HeldLine}
use Rattle.properties_format.specs.Encoding.{Encoding, windows_1252, utf_8, utf_16le, utf_16be}
use Rattle.properties_format.specs.Utf16.{is_high, is_low, low_first, high_first}
use Rattle.properties_text.specs.Encoding.{encoding_of}
use Rattle.properties_lines.specs.{Private.HeldLines.IsInBody, Private.HeldLines.held_lines_left, Scanner.HasRightFlags, Scanner.raw_line_bytes}
use Rattle.properties_lines.specs.{declared.scanner.RawLine.RawLine, declared.scanner.Scanner.Scanner}
use Rattle.properties_tables.specs.Lines.{holds_byte, holds_mark_in, holds_misread, holds_non_ascii, holds_zero, AreFlawedIn, HasFlawed}
use Rattle.properties_tables.specs.declared.ill_formed.Flaw.{Flaw}
use Rattle.properties_tables.specs.declared.ill_formed.Flaw.TheVariants.{IllFormed, Zero, NonAscii, Byte, MarkInside, Misread}

-- ---- the bytes of a line

-- the unit that two bytes make
abbrev pub unit_at : Encoding → ℕ → ℕ → ℕ
unit_at utf_16be = high_first
unit_at other = low_first

-- Whether each surrogate is one of a pair, and no byte is left over. A high surrogate may come before the bytes.
abbrev pub are_paired : (ℕ → ℕ → ℕ) → Bool → List ℕ → Bool
are_paired unit after_high [] = not after_high
are_paired unit after_high (a ∷ []) = false
are_paired unit after_high (a ∷ b ∷ bytes) =
    (if is_low (unit a b) then after_high else not after_high) && are_paired unit (is_high (unit a b)) bytes

-- whether the bytes of a line are well-formed
abbrev pub is_well_formed : Encoding → List ℕ → Bool
is_well_formed windows_1252 bytes = true
is_well_formed utf_8 bytes = is_utf8 bytes
is_well_formed utf_16le bytes = are_paired low_first false bytes
is_well_formed utf_16be bytes = are_paired high_first false bytes

-- whether each unit is an ASCII character, and no byte is left over
abbrev pub are_ascii : (ℕ → ℕ → ℕ) → List ℕ → Bool
are_ascii unit [] = true
are_ascii unit (a ∷ []) = false
are_ascii unit (a ∷ b ∷ bytes) = nat_lt (unit a b) 0x80 && are_ascii unit bytes

-- whether the bytes of a line are ASCII characters alone
abbrev pub is_ascii : Encoding → List ℕ → Bool
is_ascii utf_16le bytes = are_ascii low_first bytes
is_ascii utf_16be bytes = are_ascii high_first bytes
is_ascii e bytes = not (holds_non_ascii bytes)

-- whether one of the units is U+FEFF
abbrev pub holds_mark_unit : (ℕ → ℕ → ℕ) → List ℕ → Bool
holds_mark_unit unit [] = false
holds_mark_unit unit (a ∷ []) = false
holds_mark_unit unit (a ∷ b ∷ bytes) = unit a b == 0xfeff || holds_mark_unit unit bytes

-- whether they have this flaw
abbrev pub is_flawed : Flaw → Encoding → List ℕ → Bool
is_flawed IllFormed e bytes = not (is_well_formed e bytes)
is_flawed Zero e bytes = holds_zero bytes
is_flawed (Byte byte) e bytes = holds_byte byte bytes
is_flawed MarkInside e bytes = holds_mark_in e bytes
is_flawed Misread e bytes = holds_misread bytes
is_flawed NonAscii e bytes = not (is_ascii e bytes) && is_well_formed e bytes

-- whether it is a flaw in windows-1252 alone
abbrev pub is_of_windows_1252 : Flaw → Bool
is_of_windows_1252 (Byte byte) = true
is_of_windows_1252 Misread = true
is_of_windows_1252 other = false

-- ---- the lines of a body

-- These are the numbers of a body, and there are no others.
pub record HasFlawedIn (flaw : Flaw) (e : Encoding) (body : List ℕ) (numbers : List ℕ) : Type 0 where
  pub are : AreFlawedIn flaw e body numbers
  pub only : (others : List ℕ) → AreFlawedIn flaw e body others → others ≡ numbers

-- The numbers of these bytes in this encoding are those of a source.
abbrev pub HasLinesOf : Flaw → Encoding → List ℕ → Encoding → List ℕ → Type 0
HasLinesOf flaw e source f bytes = (numbers : List ℕ) → HasFlawedIn flaw f bytes numbers → HasFlawed flaw e source numbers

-- the numbers of the lines after so many that have this flaw
abbrev pub numbers_from : Flaw → Encoding → ℕ → List HeldLine → List ℕ
numbers_from flaw e n [] = []
numbers_from flaw e n (h ∷ hs) = if is_flawed flaw e h.bytes then (n + 1) ∷ numbers_from flaw e (n + 1) hs else numbers_from flaw e (n + 1) hs

-- those of the lines to come
abbrev pub numbers_left : Flaw → List ℕ → Scanner → List ℕ
numbers_left flaw body s = numbers_from flaw (encoding_of s.encoding) s.passed (held_lines_left body s)

-- A body is scanned. The lines before the scanner's place and those to come are at most one more than the bytes.
pub record IsScanning (body : List ℕ) (s : Scanner) : Type 0 where
  pub in_body : IsInBody s body
  pub few : s.passed + length (held_lines_left body s) ≤ length body + 1

-- The next number is found, if there is one.
abbrev pub FindsFlawedLine : Flaw → List ℕ → Scanner → Option ℕ → Scanner → Type 0
FindsFlawedLine flaw body old None new = numbers_left flaw body old ≡ []
FindsFlawedLine flaw body old (Some number) new = IsScanning body new × (numbers_left flaw body old ≡ number ∷ numbers_left flaw body new)

-- A line of bytes was found.
pub record IsFoundLine (e : Encoding) (body : List ℕ) (line : RawLine) : Type 0 where
  pub ordered : line.start ≤ line.end
  pub within : line.end ≤ length body
  pub flags : HasRightFlags e (raw_line_bytes body line) line
