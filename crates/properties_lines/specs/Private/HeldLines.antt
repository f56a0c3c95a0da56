-- The natural lines of a body that is held in memory, as a scanner finds them.
use Rattle.std.specs.Prelude.{◌≡◌, ◌≢◌, ℕ, false, if◌then◌else◌, List, [], drop, Option}
use Rattle.properties_format.specs.Text as text
use Rattle.properties_format.specs.Encoding.{Encoding}
use Rattle.properties_format.specs.Cut.{units}
use Rattle.properties_format.specs.Computed.Lines.{begins_with_lf}
use Rattle.properties_format.specs.Computed.Cut.{decoded_line}
use Rattle.properties_format.specs.Body.{HeldLine}
use Rattle.properties_format.specs.Computed.Body.{held_lines_of}
use Rattle.properties_text.specs.Encoding.{encoding_of}
use Rattle.properties_lines.specs.Scanner.{Fits, raw_line_bytes}
use Rattle.properties_lines.specs.declared.scanner.Front.TheVariants.{Mark, Feed}
use Rattle.properties_lines.specs.declared.scanner.RawLine.{RawLine}
use Rattle.properties_lines.specs.declared.scanner.Scanner.{Scanner}

-- the line that consists of these bytes of the body
abbrev pub held_line : Encoding → List ℕ → RawLine → Option text.LineEnding → HeldLine
held_line e body line ending = record { bytes = raw_line_bytes body line; text = decoded_line e (raw_line_bytes body line); ending = ending }

-- The scanner is past the byte order mark, and no LF comes next that belongs to the line ending before it.
pub record IsInBody (s : Scanner) (body : List ℕ) : Type 0 where
  pub fits : Fits s body
  pub decided : s.front ≢ Mark
  pub alone : s.front ≡ Feed → begins_with_lf (units (encoding_of s.encoding) (drop s.at body)) ≡ false

-- the lines to come
abbrev pub held_lines_left : List ℕ → Scanner → List HeldLine
held_lines_left body s = if s.is_done then [] else held_lines_of (encoding_of s.encoding) (drop s.at body)
