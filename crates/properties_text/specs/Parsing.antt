-- The parts of a line, as contracts see them.
use Rattle.std.specs.Prelude.{◌≡◌, ◌≤◌, ◌+◌, ◌-◌, ◌||◌, ◌==◌, not, ℕ, Bool, List, length, take, drop, Option, Some, None}
use Rattle.std.specs.Str.{chars, IsCharBoundary}
use Rattle.byte_blocks.specs.Classes.{is_control}
use Rattle.properties_format.specs.Text.{backslash}
use Rattle.properties_format.specs.Printing.{is_special}
use Rattle.properties_format.specs.Computed.Split.{ends_key}
use Rattle.properties_format.specs.Split.{Logical, blank, comment, pair, IsComment, IsPair, IsSplit}
use Rattle.properties_text.specs.declared.parse.ParsedSpans.{ParsedSpans}
use Rattle.properties_text.specs.declared.parse.ParsedSpans.TheVariants as spans
use Rattle.properties_text.specs.declared.parse.Span.{Span}

-- whether a character of a key neither ends the key nor escapes the next character
abbrev pub stays_in_key : ℕ → Bool
stays_in_key c = not (c == backslash || ends_key c)

-- whether a character is special or a control character
abbrev pub may_end : ℕ → Bool
may_end c = is_control c || is_special c

-- the bytes of a line at this position
abbrev pub bytes_in : List ℕ → Span → List ℕ
bytes_in line span = take (span.end - span.start) (drop span.start line)

-- what a line is, in bytes, if its parts are at these positions
abbrev pub spanned : List ℕ → Option ParsedSpans → Logical
spanned line None = blank
spanned line (Some (spans.Comment text)) = comment (bytes_in line text)
spanned line (Some (spans.KVPair key value)) = pair (bytes_in line key) (bytes_in line value)

-- what a line is, with its parts in characters instead of bytes
abbrev pub in_characters : Logical → Logical
in_characters blank = blank
in_characters (comment text) = comment (chars text)
in_characters (pair key value) = pair (chars key) (chars value)

-- The span lies within the line, and cuts no character.
pub record IsSpan (line : List ℕ) (span : Span) : Type 0 where
  pub ordered : span.start ≤ span.end
  pub within : span.end ≤ length line
  pub starts_whole : IsCharBoundary line span.start
  pub ends_whole : IsCharBoundary line span.end

abbrev pub AreSpans : List ℕ → Option ParsedSpans → Type 0
AreSpans line None = Unit {0}
AreSpans line (Some (spans.Comment text)) = IsSpan line text
AreSpans line (Some (spans.KVPair key value)) = IsSpan line key × IsSpan line value

-- The text of a comment is what follows the indentation, the sign and the blanks after it, without the blanks at its
-- end.
pub record IsCommentAt (line : List ℕ) (text : Span) : Type 0 where
  pub division : IsComment line (bytes_in line text)
  pub start : text.start ≡ length division.indent + 1 + length division.trimmed.before
  pub end : text.end ≡ text.start + length (bytes_in line text)

-- The key follows the indentation. The value follows what separates them, and extends to the end of the line.
pub record IsPairAt (line : List ℕ) (key value : Span) : Type 0 where
  pub division : IsPair line (bytes_in line key) (bytes_in line value)
  pub key_start : key.start ≡ length division.indent
  pub key_end : key.end ≡ key.start + length (bytes_in line key)
  pub value_start : value.start ≡ key.end + length division.between
  pub value_end : value.end ≡ length line

-- Each part is where the division of the line puts it.
abbrev pub AreInPlace : List ℕ → Option ParsedSpans → Type 0
AreInPlace line None = Unit {0}
AreInPlace line (Some (spans.Comment text)) = IsCommentAt line text
AreInPlace line (Some (spans.KVPair key value)) = IsPairAt line key value

-- Where the line is text, the parts are those of its characters, and none is cut.
pub record AreFoundInText (line : List ℕ) (found : Option ParsedSpans) : Type 0 where
  pub meets : IsSplit (chars line) (in_characters (spanned line found))
  pub spans : AreSpans line found
