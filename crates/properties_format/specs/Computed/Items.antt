-- The items of an input, computed group by group.
use Rattle.std.specs.Prelude.{ℕ, List, [], ◌∷◌}
use Rattle.properties_format.specs.Encoding.{Encoding}
use Rattle.properties_format.specs.Computed.Encoding.{decoded_of}
use Rattle.properties_format.specs.Lines.{InputEnd, Line, Lines, line_endings, numbered_lines, joined, first_number}
use Rattle.properties_format.specs.Computed.Lines.{lines_of, groups_of}
use Rattle.properties_format.specs.Split.{Logical}
use Rattle.properties_format.specs.Computed.Split.{split_of}
use Rattle.properties_format.specs.Escapes.{Meaning, means, breaks}
use Rattle.properties_format.specs.Computed.Escapes.{meaning_of}
use Rattle.properties_format.specs.Items.{comment, pair, Entry, item, malformed, Outcome, ignored, given, broken, last_entries}

-- the outcome of a comment, given what its text resolves to
abbrev pub comment_outcome : Meaning → Outcome
comment_outcome (means text) = given (comment text)
comment_outcome (breaks kind) = broken kind

-- the outcome of a pair, given what its key and its value resolve to
abbrev pub pair_outcome : Meaning → Meaning → Outcome
pair_outcome (breaks kind) value = broken kind
pair_outcome (means key) (breaks kind) = broken kind
pair_outcome (means key) (means value) = given (pair key value)

-- the outcome of a logical line, given what the line is
abbrev pub split_outcome : Logical → Outcome
split_outcome Logical.blank = ignored
split_outcome (Logical.comment raw) = comment_outcome (meaning_of raw)
split_outcome (Logical.pair raw_key raw_value) = pair_outcome (meaning_of raw_key) (meaning_of raw_value)

-- the outcome of a logical line
abbrev pub outcome_of : List ℕ → Outcome
outcome_of x = split_outcome (split_of x)

-- the entry of an outcome, followed by the entries after it unless the escape is malformed
abbrev pub followed : ℕ → Outcome → List Entry → List Entry
followed number ignored rest = rest
followed number (given content) rest = item number content ∷ rest
followed number (broken kind) rest = malformed kind number ∷ []

-- the entries of the groups
abbrev pub entries_of : ℕ → InputEnd → List (List Line) → List Entry
entries_of n ending [] = last_entries n ending
entries_of n ending (group ∷ groups) = followed (first_number group) (outcome_of (joined group)) (entries_of n ending groups)

-- the entries of the lines of a text
abbrev pub items_of_lines : Lines → InputEnd → List Entry
items_of_lines lines ending = entries_of (line_endings lines) ending (groups_of (numbered_lines lines ending) ending)

-- the entries of an input
unfoldable pub items_of : Encoding → List ℕ → InputEnd → List Entry
items_of e bytes ending = items_of_lines (lines_of (decoded_of e bytes)) ending
