-- The items that a reader will still return, computed: the natural lines to come, the logical lines to come, and their
-- entries.
use Rattle.std.specs.Prelude.{ℕ, ◌+◌, if◌then◌else◌, List, [], ◌∷◌, Option, Some, None, ◌≡◌, true, false, ◌++◌}
use Rattle.properties_format.specs.Text.{piece_characters}
use Rattle.properties_format.specs.Computed.Encoding.{pieces_of}
use Rattle.properties_format.specs.Lines.{InputEnd, Line, Lines, line_endings, numbered}
use Rattle.properties_format.specs.Computed.Lines.{rest_of_end, lines_of, groups_of, logical_lines, joins_after}
use Rattle.properties_format.specs.Items.{Entry, last_entries}
use Rattle.properties_format.specs.ItemsToCome.{ReaderState, in_force}
use Rattle.properties_format.specs.Computed.Items.{outcome_of, followed, entries_of}
use Rattle.properties_format.specs.Encoding.{byte_order_mark}
use Rattle.properties_format.specs.Computed.Cut.{decoded_line}
use Rattle.properties_format.specs.Cut.{HoldsNoLineEndingUnit}

-- the characters to come, without an LF that belongs to the line ending before
abbrev pub text_to_come : ReaderState → List ℕ → List ℕ
text_to_come s d = rest_of_end s.after_cr (piece_characters (pieces_of (in_force s d).encoding (in_force s d).body))

-- the entries of lines after n line endings
abbrev pub further_entries : ℕ → Lines → InputEnd → List Entry
further_entries n lines ending = entries_of (n + line_endings lines) ending (groups_of (numbered n lines.ended lines.last ending) ending)

-- the items to come
unfoldable pub items_to_come : ReaderState → List ℕ → InputEnd → List Entry
items_to_come s d ending = if s.is_done then [] else further_entries s.passed (lines_of (text_to_come s d)) ending

-- ---- the items to come, computed from the natural lines to come

-- the natural lines to come
unfoldable pub natural_to_come : ReaderState → List ℕ → InputEnd → List Line
natural_to_come s d ending = if s.is_done then [] else (let lines = lines_of (text_to_come s d) in numbered s.passed lines.ended lines.last ending)

-- what follows the last line: if a read failed, the error has the number of the line in which it failed
unfoldable pub last_to_come : ReaderState → List ℕ → InputEnd → List Entry
last_to_come s d ending = if s.is_done then [] else last_entries (s.passed + line_endings (lines_of (text_to_come s d))) ending

-- the entries of these logical lines, followed by the last entries
abbrev pub entries_of_logical : List Line → List Entry → List Entry
entries_of_logical [] last = last
entries_of_logical (l ∷ ls) last = followed l.number (outcome_of l.text) (entries_of_logical ls last)

-- the logical lines of natural lines; if a logical line has been started, they continue it. It is given as the number
-- of its first line and the text that its lines have added so far
abbrev pub logical_pending : Option Line → List Line → InputEnd → List Line
logical_pending None ls ending = logical_lines ls ending
logical_pending (Some join) ls ending = joins_after join.number join.text ls ending

-- the entries to come, if a logical line may have been started
unfoldable pub entries_pending : Option Line → ReaderState → List ℕ → InputEnd → List Entry
entries_pending pending s d ending = entries_of_logical (logical_pending pending (natural_to_come s d ending) ending) (last_to_come s d ending)

-- ---- A step of a reader: what it returns, and what is left to come.

-- If x comes and then this ending, the reader first returns these natural lines, and then what it returns in the state
-- after them if y comes.
pub record Gives (before : ReaderState) (x : List ℕ) (lines : List Line) (after : ReaderState) (y : List ℕ) (ending : InputEnd) : Type 0 where
  pub natural : natural_to_come before x ending ≡ lines ++ natural_to_come after y ending
  pub last : last_to_come before x ending ≡ last_to_come after y ending

-- ---- the steps

-- the state after the bytes that are held decided whether the input begins with a byte order mark
abbrev pub after_decided : ReaderState → ReaderState
after_decided s =
    let m = byte_order_mark s.encoding s.held in record s { encoding = m.encoding; is_decided = true; held = m.body }

-- the state after the whole of the line ending before was passed, with these bytes left
abbrev pub after_passed : ReaderState → List ℕ → ReaderState
after_passed s rest = record s { held = rest; after_cr = false }

-- the next line, made of these bytes
abbrev pub next_line : ReaderState → List ℕ → Line
next_line s l = record { number = s.passed + 1; text = decoded_line s.encoding l }

-- The bytes that are held contain no line ending.
pub record HoldsNoEnd (s : ReaderState) : Type 0 where
  pub going : s.is_done ≡ false
  pub decided : s.is_decided ≡ true
  pub none : HoldsNoLineEndingUnit s.encoding s.held

-- ---- steps one after the other, whatever follows them

-- Reading r, the reader first returns these natural lines.
pub record ReadsLines (before : ReaderState) (r : List ℕ) (lines : List Line) (after : ReaderState) : Type 0 where
  pub gives : (d : List ℕ) (ending : InputEnd) → Gives before (r ++ d) lines after d ending

-- Reading r, the reader completes this logical line.
pub record ReadsLogical (before : ReaderState) (r : List ℕ) (line : Line) (after : ReaderState) : Type 0 where
  pub items : (d : List ℕ) (ending : InputEnd)
      → items_to_come before (r ++ d) ending ≡ followed line.number (outcome_of line.text) (items_to_come after d ending)

-- Reading r, the reader returns this entry.
pub record ReadsEntry (before : ReaderState) (r : List ℕ) (entry : Entry) (after : ReaderState) : Type 0 where
  pub items : (d : List ℕ) (ending : InputEnd) → items_to_come before (r ++ d) ending ≡ entry ∷ items_to_come after d ending
