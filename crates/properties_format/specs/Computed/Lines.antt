-- The lines of a text, computed from its end, its groups and its logical lines; and the lines to come if a text is read in
-- parts.
use Rattle.std.specs.Prelude.{ℕ, ◌==◌, Bool, true, false, if◌then◌else◌, List, [], ◌∷◌, ◌++◌, not, ◌||◌}
use Rattle.properties_format.specs.Text.{line_feed, carriage_return, LineEnding, lf, cr, crlf}
use Rattle.properties_format.specs.Lines.{Ended, Lines, InputEnd, Line, numbered, numbered_lines, is_open, is_comment_line, last_group, end, addition, joined, first_number}
pub use Rattle.properties_format.specs.Lines.{ends_in_cr}
use Rattle.properties_format.specs.Encoding.{Encoding}
use Rattle.properties_format.specs.Computed.Encoding.{decoded_of}

-- the text without an LF at its front, which belongs to a CR before it
abbrev pub without_leading_lf : List ℕ → List ℕ
without_leading_lf [] = []
without_leading_lf (c ∷ cs) = if c == line_feed then cs else c ∷ cs

-- whether an LF is at the front
abbrev pub begins_with_lf : List ℕ → Bool
begins_with_lf [] = false
begins_with_lf (c ∷ cs) = c == line_feed

-- whether this is an empty line that an LF ends
abbrev pub is_lone_lf : List ℕ → LineEnding → Bool
is_lone_lf [] lf = true
is_lone_lf text by = false

-- the lines with an empty line and its end at the front
abbrev pub end_before : LineEnding → List Ended → List Ended
end_before by ls = record { text = []; by = by } ∷ ls

-- the lines with a CR at the front, which takes the LF of an empty line that an LF ends
abbrev pub cr_before : List Ended → List Ended
cr_before [] = end_before cr []
cr_before (l ∷ ls) = if is_lone_lf l.text l.by then end_before crlf ls else end_before cr (l ∷ ls)

-- the lines with a character that isn't a line ending at the front
abbrev pub character_before : ℕ → List Ended → List ℕ → Lines
character_before c [] last = record { ended = []; last = c ∷ last }
character_before c (l ∷ ls) last = record { ended = record { text = c ∷ l.text; by = l.by } ∷ ls; last = last }

-- the lines with any character at the front
abbrev pub before : ℕ → Lines → Lines
before c lines =
    if c == line_feed then record lines { ended = end_before lf lines.ended }
    else (if c == carriage_return then record lines { ended = cr_before lines.ended } else character_before c lines.ended lines.last)

-- the lines of the text
abbrev pub lines_of : List ℕ → Lines
lines_of [] = record { ended = []; last = [] }
lines_of (c ∷ cs) = before c (lines_of cs)

-- ---- the lines to come, if a text is read in parts

-- the text to come, without an LF at its front if the character before it was a CR
abbrev pub rest_of_end : Bool → List ℕ → List ℕ
rest_of_end true y = without_leading_lf y
rest_of_end false y = y

-- the numbered lines to come, if n line endings were passed, the character before may be a CR, and the beginning of the
-- next line is held
abbrev pub lines_to_come : ℕ → Bool → List ℕ → List ℕ → InputEnd → List Line
lines_to_come n after_cr held y ending =
    let lines = lines_of (held ++ rest_of_end after_cr y) in numbered n lines.ended lines.last ending

-- ---- The groups, computed line by line.

-- whether the line is the last of its group, given the lines of the group before it
abbrev pub closes : List Line → Line → Bool
closes [] l = is_comment_line l.text || not (is_open l.text)
closes (p ∷ ps) l = not (is_open l.text)

-- the groups of these lines, which follow the lines of a group that is still open
abbrev pub groups_after : List Line → List Line → InputEnd → List (List Line)
groups_after open_lines [] ending = last_group open_lines ending
groups_after open_lines (l ∷ ls) ending =
    elim (closes open_lines l) [
      | true ↦ (open_lines ++ l ∷ []) ∷ groups_after [] ls ending
      | false ↦ groups_after (open_lines ++ l ∷ []) ls ending
    ]

-- the groups of the lines
abbrev pub groups_of : List Line → InputEnd → List (List Line)
groups_of lines ending = groups_after [] lines ending

-- the groups of an input
abbrev pub groups_in : Encoding → List ℕ → InputEnd → List (List Line)
groups_in e bytes ending = groups_of (numbered_lines (lines_of (decoded_of e bytes)) ending) ending

-- ---- The logical lines: each group as one line, with the number of its first line.
-- Source: java.util.Properties of Java SE 7, load: a logical line holds all the data of a key-element pair.

-- the groups as logical lines
abbrev pub logical : List (List Line) → List Line
logical [] = []
logical (g ∷ gs) = record { number = first_number g; text = joined g } ∷ logical gs

-- the logical lines of natural lines
abbrev pub logical_lines : List Line → InputEnd → List Line
logical_lines ls ending = logical (groups_of ls ending)

-- ---- the logical lines to come, if lines are joined one at a time

-- the logical line that has been started, if the input ends; none if a read failed or more may come
abbrev pub last_join : ℕ → List ℕ → InputEnd → List Line
last_join number text end = record { number = number; text = text } ∷ []
last_join number text ending = []

-- the logical lines of these lines after open lines, given the number of the first of these and the text that they have
-- added so far
abbrev pub joins_after : ℕ → List ℕ → List Line → InputEnd → List Line
joins_after number text [] ending = last_join number text ending
joins_after number text (l ∷ ls) ending =
    elim (is_open l.text) [
      | true ↦ joins_after number (text ++ addition l.text) ls ending
      | false ↦ record { number = number; text = text ++ addition l.text } ∷ logical_lines ls ending
    ]
