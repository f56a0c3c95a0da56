-- The natural lines of a text, and their groups.
-- Source: java.util.Properties of Java SE 7, load: a natural line is terminated by \n, by \r, by \r\n, or by the end of
-- the stream.
use Rattle.std.specs.Prelude.{◌≡◌, ℕ, ◌+◌, ◌==◌, Bool, false, List, [], ◌∷◌, ◌++◌, length, suc, ◌%◌, ◌⊎◌, true, if◌then◌else◌, reverse}
use Rattle.properties_format.specs.Text.{carriage_return, is_line_ending, LineEnding, lf, cr, line_ending_text, backslash, is_comment_sign, without_leading_blanks, begins}
use Rattle.properties_format.specs.Encoding.{Encoding, IsDecoded}

-- a line with its end
pub record Ended : Type 0 where
  pub text : List ℕ
  pub by : LineEnding

-- the lines of a text: those that a line ending ends, and the last one, which the end of the text ends
pub record Lines : Type 0 where
  pub ended : List Ended
  pub last : List ℕ

-- the lines with their ends, put back together
abbrev pub put_together : List Ended → List ℕ → List ℕ
put_together [] last = last
put_together (l ∷ ls) last = l.text ++ (line_ending_text l.by ++ put_together ls last)

-- No character of the line is a CR or an LF.
abbrev pub HoldsNoLineEnding : List ℕ → Type 0
HoldsNoLineEnding [] = Unit {0}
HoldsNoLineEnding (c ∷ cs) = (is_line_ending c ≡ false) × HoldsNoLineEnding cs

-- The first of these lines isn't an empty one that an LF ends.
abbrev pub BeginsWithNoLoneLf : List Ended → Type 0
BeginsWithNoLoneLf [] = Unit {0}
BeginsWithNoLoneLf (l ∷ ls) = ¬ ((l.text ≡ []) × (l.by ≡ lf))

-- No line contains a line ending. After a line that a CR ends, the next line isn't an empty one that an LF ends,
-- because that LF would belong to the same end.
abbrev pub AreLines : List Ended → List ℕ → Type 0
AreLines [] last = HoldsNoLineEnding last
AreLines (l ∷ ls) last = HoldsNoLineEnding l.text × (l.by ≡ cr → BeginsWithNoLoneLf ls) × AreLines ls last

-- The text has these lines.
pub record IsLines (x : List ℕ) (lines : Lines) : Type 0 where
  pub text : x ≡ put_together lines.ended lines.last
  pub are_lines : AreLines lines.ended lines.last

-- the number of line endings
abbrev pub line_endings : Lines → ℕ
line_endings lines = length lines.ended

-- whether the text ends in a CR
abbrev pub ends_in_cr : List ℕ → Bool
ends_in_cr [] = false
ends_in_cr (c ∷ []) = c == carriage_return
ends_in_cr (c ∷ d ∷ ds) = ends_in_cr (d ∷ ds)

-- What follows the input so far: it ends, a read fails, or more of it may come.
pub data InputEnd : Type 0 where
  end : InputEnd
  fault : InputEnd
  more : InputEnd

-- a line with its number
pub record Line : Type 0 where
  pub number : ℕ
  pub text : List ℕ

-- the lines after n line endings, with their numbers; characters after the last line ending are a line only if the
-- input ends
abbrev pub numbered : ℕ → List Ended → List ℕ → InputEnd → List Line
numbered n [] last end = record { number = n + 1; text = last } ∷ []
numbered n [] last ending = []
numbered n (l ∷ ls) last ending = record { number = n + 1; text = l.text } ∷ numbered (n + 1) ls last ending

-- the lines numbered from 1
abbrev pub numbered_lines : Lines → InputEnd → List Line
numbered_lines lines ending = numbered 0 lines.ended lines.last ending

-- ---- The groups of natural lines, each of which makes one logical line.
-- Source: java.util.Properties of Java SE 7, load: a logical line may be spread out across several adjacent natural
-- lines, where a backslash escapes the line terminator; a comment line can not be extended so.

-- the number of backslashes at the front of the text
abbrev pub leading_backslashes : List ℕ → ℕ
leading_backslashes [] = 0
leading_backslashes (c ∷ cs) = if c == backslash then suc (leading_backslashes cs) else 0

-- the number of backslashes at the end of the text
abbrev pub ending_backslashes : List ℕ → ℕ
ending_backslashes x = leading_backslashes (reverse x)

-- whether the line is open: it ends in an odd number of backslashes
abbrev pub is_open : List ℕ → Bool
is_open x = ending_backslashes x % 2 == 1

-- whether the line is a comment line: its first character that isn't a blank is a comment sign
abbrev pub is_comment_line : List ℕ → Bool
is_comment_line x = begins is_comment_sign (without_leading_blanks x)

-- All lines but the last are open, and the last isn't.
abbrev pub EndsClosed : Line → List Line → Type 0
EndsClosed l [] = is_open l.text ≡ false
EndsClosed l (m ∷ ms) = (is_open l.text ≡ true) × EndsClosed m ms

-- All lines are open.
abbrev pub AreOpen : List Line → Type 0
AreOpen [] = Unit {0}
AreOpen (l ∷ ls) = (is_open l.text ≡ true) × AreOpen ls

-- A whole group is a single comment line; or it begins with a line that isn't a comment line, all its lines but the
-- last are open, and the last isn't.
abbrev pub IsWhole : List Line → Type 0
IsWhole [] = ⊥
IsWhole (l ∷ ls) = (is_comment_line l.text ≡ true) × (ls ≡ []) ⊎ (is_comment_line l.text ≡ false) × EndsClosed l ls

-- Each of these groups is whole.
abbrev pub AreWhole : List (List Line) → Type 0
AreWhole [] = Unit {0}
AreWhole (g ∷ gs) = IsWhole g × AreWhole gs

-- What is left after the whole groups: nothing; or lines that are all open, the first of which isn't a comment line.
abbrev pub IsUnfinished : List Line → Type 0
IsUnfinished [] = Unit {0}
IsUnfinished (l ∷ ls) = (is_comment_line l.text ≡ false) × AreOpen (l ∷ ls)

-- the lines of the groups
abbrev pub lines_in : List (List Line) → List Line
lines_in [] = []
lines_in (g ∷ gs) = g ++ lines_in gs

-- a group that ends open is the last group if the input ends; it is left out if a read failed or more input may come
abbrev pub last_group : List Line → InputEnd → List (List Line)
last_group (l ∷ ls) end = (l ∷ ls) ∷ []
last_group ls ending = []

-- The lines have these groups: whole ones, and possibly a last one that ends open.
pub record IsGroups (lines : List Line) (ending : InputEnd) (groups : List (List Line)) : Type 0 where
  pub whole : List (List Line)
  pub unfinished : List Line
  pub are_lines : lines ≡ lines_in whole ++ unfinished
  pub are_whole : AreWhole whole
  pub is_unfinished : IsUnfinished unfinished
  pub are_groups : groups ≡ whole ++ last_group unfinished ending

-- The groups of an input in an encoding, up to this ending: the input is decoded to a text, the text has lines, and the
-- lines have these groups.
pub record HasGroups (e : Encoding) (bytes : List ℕ) (ending : InputEnd) (groups : List (List Line)) : Type 0 where
  pub text : List ℕ
  pub lines : Lines
  pub decoded : IsDecoded e bytes text
  pub divided : IsLines text lines
  pub grouped : IsGroups (numbered_lines lines ending) ending groups

-- the text without its last character
abbrev pub without_last : List ℕ → List ℕ
without_last (c ∷ d ∷ ds) = c ∷ without_last (d ∷ ds)
without_last x = []

-- the line; or, if it is open, the line without its last backslash
abbrev pub without_open_backslash : List ℕ → List ℕ
without_open_backslash x = if is_open x then without_last x else x

-- what a line adds to the lines before it: the line without its leading blanks and without its open backslash
abbrev pub addition : List ℕ → List ℕ
addition x = without_open_backslash (without_leading_blanks x)

-- what the lines after the first add
abbrev pub joined_after : List Line → List ℕ
joined_after [] = []
joined_after (l ∷ ls) = addition l.text ++ joined_after ls

-- the logical line of a group: a comment line unchanged, or the lines joined
abbrev pub joined : List Line → List ℕ
joined [] = []
joined (l ∷ ls) = if is_comment_line l.text then l.text else without_open_backslash l.text ++ joined_after ls

-- the number of a group's first line
abbrev pub first_number : List Line → ℕ
first_number [] = 0
first_number (l ∷ ls) = l.number
