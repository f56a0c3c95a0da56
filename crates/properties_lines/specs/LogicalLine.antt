-- The bytes of a logical line.
use Rattle.std.specs.Prelude.{◌≡◌, ◌⊎◌, ◌≤◌, ◌++◌, ℕ, Bool, true, false, if◌then◌else◌, List, length, take, Result, Ok, Err}
use Rattle.std.specs.Str.{chars, IsUtf8}
use Rattle.properties_format.specs.Encoding.{Encoding, windows_1252, utf_8, output_encoding}
use Rattle.properties_format.specs.Lines.{is_comment_line, is_open, addition, without_open_backslash}
use Rattle.properties_format.specs.Utf8.{IsWellFormedText}
use Rattle.properties_format.specs.Computed.Cut.{decoded_line}
use Rattle.properties_text.specs.Encoding.{line_of}
use Rattle.properties_text.specs.Escaping.{text_in, IsWell}
use Rattle.properties_text.specs.declared.encoding.line_encoding.LineEncoding.TheVariants.{Utf8}
use Rattle.properties_lines.specs.declared.logical.Place.{Place}
use Rattle.properties_lines.specs.declared.logical.Place.TheVariants.{Natural, Decoded, Joined}
use Rattle.properties_lines.specs.declared.logical.LogicalLine.{LogicalLine}

-- ---- where the bytes are

abbrev pub is_natural : Place → Bool
is_natural Natural = true
is_natural place = false

abbrev pub placed_bytes : Place → (natural decoded joined : List ℕ) → List ℕ
placed_bytes Natural natural decoded joined = natural
placed_bytes Decoded natural decoded joined = decoded
placed_bytes Joined natural decoded joined = joined

-- the bytes, given those of the natural line
abbrev pub bytes_with : LogicalLine → List ℕ → List ℕ
bytes_with line natural = placed_bytes line.place natural line.decoded line.joined

-- What was decoded is in UTF-8.
abbrev pub IsSoundLogicalLine : LogicalLine → Type 0
IsSoundLogicalLine line = line.place ≡ Decoded → line.encoding ≡ Utf8

-- The second list begins with the first.
pub record BeginsWith (bytes whole : List ℕ) : Type 0 where
  pub front : take (length bytes) whole ≡ bytes
  pub within : length bytes ≤ length whole

-- ---- what they say

-- The line, over this natural line, is well-formed and has this text.
pub record HasText (line : LogicalLine) (natural text : List ℕ) : Type 0 where
  pub well : IsWell line.encoding (bytes_with line natural)
  pub is : text_in line.encoding (bytes_with line natural) ≡ text

-- The bytes are this text in UTF-8.
pub record IsTextOf (text bytes : List ℕ) : Type 0 where
  pub utf8 : IsUtf8 bytes
  pub characters : chars bytes ≡ text

-- Bytes in this encoding are in windows-1252 or in well-formed UTF-8.
abbrev pub IsLineIn : Encoding → List ℕ → Type 0
IsLineIn windows_1252 bytes = Unit {0}
IsLineIn utf_8 bytes = IsWellFormedText bytes
IsLineIn e bytes = ⊥

abbrev pub TellsLine : Encoding → List ℕ → Bool → Type 0
TellsLine e bytes true = IsLineIn e bytes
TellsLine e bytes false = ¬ (IsLineIn e bytes)

-- ---- joining

-- A line was joined to an unfinished line, and the result says whether it is open.
abbrev pub AddsText : {E : Type 0} → List ℕ → List ℕ → Result Bool E → List ℕ → Type 0
AddsText line old (Ok left_open) new = (left_open ≡ is_open line) × (new ≡ old ++ addition line)
AddsText line old (Err error) new = Unit {0}

-- whether the next line is joined to this one
abbrev pub is_continued : List ℕ → Bool
is_continued text = if is_comment_line text then false else is_open text

-- The result says whether the next line is joined to this one. If so, the line is kept without the backslash that
-- leaves it open.
abbrev pub BeginsText : {E : Type 0} → List ℕ → Result Bool E → List ℕ → Type 0
BeginsText line (Ok true) new = (is_continued line ≡ true) × (new ≡ without_open_backslash line)
BeginsText line (Ok false) new = is_continued line ≡ false
BeginsText line (Err error) new = Unit {0}

-- No line is joined to this one: it is a comment, or it isn't open.
abbrev pub IsNotContinued : List ℕ → Type 0
IsNotContinued text = (is_comment_line text ≡ true) ⊎ (is_open text ≡ false)

-- Natural lines in this encoding may be joined to the line.
pub record IsUnfinishedLine (e : Encoding) (line : LogicalLine) : Type 0 where
  pub place : line.place ≡ Joined
  pub encoding : line_of line.encoding ≡ output_encoding e
  pub well : IsWell line.encoding line.joined

-- the text of such a line
abbrev pub unfinished_text : LogicalLine → List ℕ
unfinished_text line = text_in line.encoding line.joined

-- The line with this text is continued, and is kept without the backslash that leaves it open.
pub record OpensJoin (e : Encoding) (text : List ℕ) (new : LogicalLine) : Type 0 where
  pub other : is_comment_line text ≡ false
  pub opens : is_open text ≡ true
  pub unfinished : IsUnfinishedLine e new
  pub closed : unfinished_text new ≡ without_open_backslash text

-- The result says whether the line with these bytes is left open. If it isn't, its bytes have its text.
abbrev pub BeginsLine : {E : Type 0} → Encoding → List ℕ → Result Bool E → LogicalLine → Type 0
BeginsLine e bytes (Ok true) new = OpensJoin e (decoded_line e bytes) new
BeginsLine e bytes (Ok false) new = IsNotContinued (decoded_line e bytes) × HasText new bytes (decoded_line e bytes)
BeginsLine e bytes (Err error) new = Unit {0}

-- The line with these bytes was joined to an unfinished line, and the result says whether it is open.
abbrev pub AddsLine : {E : Type 0} → Encoding → List ℕ → LogicalLine → Result Bool E → LogicalLine → Type 0
AddsLine e bytes old (Ok left_open) new = (left_open ≡ is_open (decoded_line e bytes))
    × (unfinished_text new ≡ unfinished_text old ++ addition (decoded_line e bytes)) × IsUnfinishedLine e new
AddsLine e bytes old (Err error) new = Unit {0}
