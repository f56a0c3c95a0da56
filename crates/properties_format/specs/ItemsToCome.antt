-- The items that a reader will still return, at any point between two of its calls.
-- Source: java.util.Properties of Java SE 7, load.
use Rattle.std.specs.Prelude.{◌≡◌, ◌≢◌, ◌⊎◌, ℕ, ◌+◌, ◌^◌, Bool, true, false, if◌then◌else◌, List, [], ◌∷◌, ◌++◌}
use Rattle.properties_format.specs.Text.{line_feed, Piece, piece_characters}
use Rattle.properties_format.specs.Encoding.{Encoding, InForce, byte_order_mark, IsPieces}
use Rattle.properties_format.specs.Lines.{InputEnd, more, Line, Lines, IsLines, line_endings, numbered, IsGroups}
use Rattle.properties_format.specs.Items.{Entry, AreEntries, last_entries}

-- The state of a reader: the encoding in force, or the requested one as long as it is undecided whether the input
-- begins with a byte order mark; the bytes that were read and not yet taken; the number of line endings that were
-- passed; whether the last of them was a CR, whose LF may still come; and whether the reader is permanently at its end.
pub record ReaderState : Type 0 where
  pub encoding : Encoding
  pub is_decided : Bool
  pub held : List ℕ
  pub passed : ℕ
  pub after_cr : Bool
  pub is_done : Bool

-- the state at the start of an input in this encoding
abbrev pub start : Encoding → ReaderState
start e = record { encoding = e; is_decided = false; held = []; passed = 0; after_cr = false; is_done = false }

-- the bytes not yet taken and the bytes to come, and the encoding that they are in
abbrev pub in_force : ReaderState → List ℕ → InForce
in_force s d = if s.is_decided then record { encoding = s.encoding; body = s.held ++ d } else byte_order_mark s.encoding (s.held ++ d)

-- the text after a line ending: if that end is a CR, an LF at the front belongs to it
abbrev pub IsAfterEnd : Bool → List ℕ → List ℕ → Type 0
IsAfterEnd false x text = x ≡ text
IsAfterEnd true x text = (x ≡ line_feed ∷ text) ⊎ (x ≡ text) × ((y : List ℕ) → text ≢ line_feed ∷ y)

-- The entries of the bytes not yet taken and of the bytes to come. These bytes have pieces; the text of the pieces has
-- lines, numbered after those that were passed; the lines have groups; and these are their entries.
pub record AreFurtherEntries (s : ReaderState) (d : List ℕ) (ending : InputEnd) (entries : List Entry) : Type 0 where
  pub pieces : List Piece
  pub text : List ℕ
  pub lines : Lines
  pub groups : List (List Line)
  pub are_pieces : IsPieces (in_force s d).encoding (in_force s d).body pieces
  pub after_end : IsAfterEnd s.after_cr (piece_characters pieces) text
  pub divided : IsLines text lines
  pub grouped : IsGroups (numbered s.passed lines.ended lines.last ending) ending groups
  pub are_entries : AreEntries (s.passed + line_endings lines) ending groups entries

-- The items to come if these bytes come and then this ending. There are none if the reader is permanently at its end.
abbrev pub IsItemsToCome : ReaderState → List ℕ → InputEnd → List Entry → Type 0
IsItemsToCome s d ending entries = (s.is_done ≡ true) × (entries ≡ []) ⊎ (s.is_done ≡ false) × AreFurtherEntries s d ending entries

-- The natural lines of the bytes not yet taken and of the bytes to come, numbered after those that were passed; and
-- what follows the last of them.
pub record AreFurtherLines (s : ReaderState) (d : List ℕ) (ending : InputEnd) (lines : List Line) (last : List Entry) : Type 0 where
  pub pieces : List Piece
  pub text : List ℕ
  pub all : Lines
  pub are_pieces : IsPieces (in_force s d).encoding (in_force s d).body pieces
  pub after_end : IsAfterEnd s.after_cr (piece_characters pieces) text
  pub divided : IsLines text all
  pub are_lines : lines ≡ numbered s.passed all.ended all.last ending
  pub are_last : last ≡ last_entries (s.passed + line_endings all) ending

-- The natural lines to come, and what follows them. There is nothing if the reader is permanently at its end.
abbrev pub AreLinesToCome : ReaderState → List ℕ → InputEnd → List Line → List Entry → Type 0
AreLinesToCome s d ending lines last =
    (s.is_done ≡ true) × (lines ≡ []) × (last ≡ []) ⊎ (s.is_done ≡ false) × AreFurtherLines s d ending lines last

-- ---- The effect of reading bytes.

-- If these bytes are read, this entry comes first, followed by what comes in the new state, whatever bytes follow.
pub record ComesFirst (old : ReaderState) (bytes : List ℕ) (entry : Entry) (new : ReaderState) : Type 0 where
  pub others : (d : List ℕ) (ending : InputEnd) (entries : List Entry) → IsItemsToCome new d ending entries → IsItemsToCome old (bytes ++ d) ending (entry ∷ entries)

-- If these bytes are read, these lines come first, followed by those that come in the new state, whatever bytes follow.
pub record LinesComeFirst (old : ReaderState) (bytes : List ℕ) (lines : List Line) (new : ReaderState) : Type 0 where
  pub others : (d : List ℕ) (ending : InputEnd) (further : List Line) (last : List Entry)
      → AreLinesToCome new d ending further last → AreLinesToCome old (bytes ++ d) ending (lines ++ further) last

-- These bytes have some lines at their front. Whatever comes after them, the old state continues after those lines as
-- the new one does.
pub record PassesSome (old : ReaderState) (bytes : List ℕ) (new : ReaderState) : Type 0 where
  pub lines : List Line
  pub first : LinesComeFirst old bytes lines new

-- The bytes hold so many lines that no number is left for another: as many are passed as there are numbers.
pub record PassesAll (old : ReaderState) (bytes : List ℕ) : Type 0 where
  pub last : ReaderState
  pub passes : PassesSome old bytes last
  pub passed : last.passed + 1 ≡ 2 ^ 64

-- Nothing was read; or the bytes already held determined no item, so a read was needed.
abbrev pub IsLazyItems : {R : Type 0} → ReaderState → R → List ℕ → R → Type 0
IsLazyItems old from bytes to = ((to ≡ from) × (bytes ≡ [])) ⊎ IsItemsToCome old [] more []
