-- The items of an input, each with its line number: its contents from the first line to the last, or to the first error.
-- Source: java.util.Properties of Java SE 7, load.
use Rattle.std.specs.Prelude.{ℕ, ◌<◌, List, [], ◌∷◌, ◌≡◌, ◌⊎◌, ◌+◌}
use Rattle.properties_format.specs.Escapes.{Malformed, Means, Breaks}
use Rattle.properties_format.specs.Encoding.{Encoding}
use Rattle.properties_format.specs.Lines.{InputEnd, fault, Line, line_endings, HasGroups, joined, first_number}
use Rattle.properties_format.specs.Split.{Logical, IsSplit}

-- the content of a line: the text of a comment, or a key and its value
pub data Content : Type 0 where
  comment : List ℕ → Content
  pair : List ℕ → List ℕ → Content

-- an item, with the number of its first line; a malformed escape, with the number of the first line; or a failed read,
-- with the number of the line in which it failed
pub data Entry : Type 0 where
  item : ℕ → Content → Entry
  malformed : Malformed → ℕ → Entry
  read_fault : ℕ → Entry

-- the line number of an entry
abbrev pub number_of : Entry → ℕ
number_of (item number content) = number
number_of (malformed kind number) = number
number_of (read_fault number) = number

-- The line numbers of the entries ascend, and all are above this one.
abbrev pub NumbersAscend : ℕ → List Entry → Type 0
NumbersAscend n [] = Unit {0}
NumbersAscend n (entry ∷ entries) = (n < number_of entry) × NumbersAscend (number_of entry) entries

-- All entries are items: no escape is malformed, and no read failed.
abbrev pub AreItems : List Entry → Type 0
AreItems [] = Unit {0}
AreItems (item number content ∷ entries) = AreItems entries
AreItems (entry ∷ entries) = ⊥

-- the outcome of a logical line: nothing, a content, or a malformed escape
pub data Outcome : Type 0 where
  ignored : Outcome
  given : Content → Outcome
  broken : Malformed → Outcome

-- The line is a comment whose resolved text is this.
pub record MeansComment (x text : List ℕ) : Type 0 where
  pub raw : List ℕ
  pub split : IsSplit x (Logical.comment raw)
  pub means : Means raw text

-- The line is a pair whose resolved key and value are these.
pub record MeansPair (x key value : List ℕ) : Type 0 where
  pub raw_key : List ℕ
  pub raw_value : List ℕ
  pub split : IsSplit x (Logical.pair raw_key raw_value)
  pub key_means : Means raw_key key
  pub value_means : Means raw_value value

-- The line is a comment with a malformed escape.
pub record BreaksComment (x : List ℕ) (kind : Malformed) : Type 0 where
  pub raw : List ℕ
  pub split : IsSplit x (Logical.comment raw)
  pub breaks : Breaks raw kind

-- The line is a pair with a malformed escape in its key.
pub record BreaksKey (x : List ℕ) (kind : Malformed) : Type 0 where
  pub raw_key : List ℕ
  pub raw_value : List ℕ
  pub split : IsSplit x (Logical.pair raw_key raw_value)
  pub breaks : Breaks raw_key kind

-- The line is a pair whose key has no malformed escape and whose value has one.
pub record BreaksValue (x : List ℕ) (kind : Malformed) : Type 0 where
  pub raw_key : List ℕ
  pub raw_value : List ℕ
  pub key : List ℕ
  pub split : IsSplit x (Logical.pair raw_key raw_value)
  pub key_means : Means raw_key key
  pub breaks : Breaks raw_value kind

-- The outcome of a logical line. A blank line is ignored. Any other line has its texts with their escapes resolved,
-- unless an escape is malformed; the key is tested before the value.
abbrev pub IsOutcome : List ℕ → Outcome → Type 0
IsOutcome x ignored = IsSplit x Logical.blank
IsOutcome x (given (comment text)) = MeansComment x text
IsOutcome x (given (pair key value)) = MeansPair x key value
IsOutcome x (broken kind) = BreaksComment x kind ⊎ (BreaksKey x kind ⊎ BreaksValue x kind)

-- what the ending adds after n line endings: if a read failed, the error has the number of the line in which it failed
abbrev pub last_entries : ℕ → InputEnd → List Entry
last_entries n fault = read_fault (n + 1) ∷ []
last_entries n ending = []

-- The entries of a group's outcome and of the groups after it. A malformed escape is the last entry.
abbrev pub IsFollowed : ℕ → Outcome → (List Entry → Type 0) → List Entry → Type 0
IsFollowed number ignored Rest entries = Rest entries
IsFollowed number (given content) Rest entries = (rest : List Entry) × (entries ≡ item number content ∷ rest) × Rest rest
IsFollowed number (broken kind) Rest entries = entries ≡ malformed kind number ∷ []

-- The entries of these groups, with this ending after n line endings: the outcome of each group, with the number of its
-- first line.
abbrev pub AreEntries : ℕ → InputEnd → List (List Line) → List Entry → Type 0
AreEntries n ending [] entries = entries ≡ last_entries n ending
AreEntries n ending (group ∷ groups) entries =
    (outcome : Outcome) × IsOutcome (joined group) outcome × IsFollowed (first_number group) outcome (AreEntries n ending groups) entries

-- The items of an input in an encoding, up to this ending: the input has groups, and these are their entries.
pub record IsItems (e : Encoding) (bytes : List ℕ) (ending : InputEnd) (entries : List Entry) : Type 0 where
  pub groups : List (List Line)
  pub has_groups : HasGroups e bytes ending groups
  pub are_entries : AreEntries (line_endings has_groups.lines) ending groups entries
