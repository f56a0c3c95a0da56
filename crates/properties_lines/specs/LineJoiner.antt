-- The joiner of lines as contracts see it, and the results and effects of its calls.
use Rattle.std.specs.Prelude.{◌≡◌, ◌⊎◌, ◌++◌, ◌&&◌, ℕ, Bool, true, false, List, [], ◌∷◌, Option, Some, None}
use Rattle.std.specs.Str.{chars, IsAscii}
use Rattle.std.specs.declared.io.Error.{Error}
use Rattle.counted_io.specs.Streams.{Reader, HasRead, HasFailed, has_ended}
use Rattle.properties_format.specs.Lines as format
use Rattle.properties_format.specs.Lines.{InputEnd, end, fault, more, is_open, joined, joined_after, AreOpen, EndsClosed, IsWhole, IsUnfinished}
use Rattle.properties_format.specs.Computed.Cut.{decoded_line}
use Rattle.properties_format.specs.Items.{Entry, read_fault}
use Rattle.properties_format.specs.ItemsToCome.{ReaderState, PassesSome, PassesAll, IsLazyItems}
use Rattle.properties_format.specs.Computed.Items.{outcome_of, followed}
use Rattle.properties_format.specs.Computed.ItemsToCome.{items_to_come, entries_pending, ReadsLogical}
use Rattle.properties_text.specs.Escaping.{holds_backslash, text_in, IsWell}
use Rattle.properties_text.specs.declared.encoding.line_encoding.LineEncoding.{LineEncoding}
use Rattle.properties_lines.specs.LineReader.{LineReading, FindsNext, Passes}
use Rattle.properties_lines.specs.Scanner.{KeepsEncoding}
use Rattle.properties_lines.specs.LogicalLine.{bytes_with, is_natural}
use Rattle.properties_lines.specs.declared.logical.LogicalLine.{LogicalLine}
use Rattle.properties_lines.specs.declared.error.LineError.TheVariants as why
use Rattle.properties_lines.specs.declared.error.LineError.{LineError}

-- how far an input was read: the reader's state, and the bytes of the line that was joined last
pub record LineState : Type 0 where
  pub state : ReaderState
  pub line : List ℕ

-- a joiner: how far it read, the encoding of that line, whether it is known to be ASCII, whether it may contain a
-- backslash, and the error that is kept
pub record LineJoining : Type 0 where
  pub at : LineState
  pub encoding : LineEncoding
  pub is_ascii : Bool
  pub has_backslash : Bool
  pub error : Option LineError

-- that line with a number, if it is in UTF-8
abbrev pub numbered_line : ℕ → LineState → format.Line
numbered_line number lines = record { number = number; text = chars lines.line }

-- that line with a number
abbrev pub numbered_bytes : ℕ → LineEncoding → List ℕ → format.Line
numbered_bytes number encoding bytes = record { number = number; text = text_in encoding bytes }

-- the text of the line that was found, decoded
abbrev pub line_text : LineReading → List ℕ
line_text lines = decoded_line lines.state.encoding lines.line

-- ---- logical lines

-- The bytes that were read give this logical line first, whatever comes after them; or it is the last line, and the
-- input ended.
pub data Comes (old : ReaderState) (bytes : List ℕ) (line : format.Line) (new : ReaderState) : Type 0 where
  going_on : new.is_done ≡ false → ReadsLogical old bytes line new → Comes old bytes line new
  at_last : new.is_done ≡ true → items_to_come old bytes end ≡ followed line.number (outcome_of line.text) [] → Comes old bytes line new

-- A read failed, and nothing but this I/O error is left to come. Its line number is that of the line that was cut off,
-- also in a continuation.
pub record JoinsFault {R : Type 0} (reader : Reader R) (Come : List ℕ → InputEnd → List Entry → Type 0) (from : R) (e : LineError) (to : R) : Type 0 where
  pub bytes : List ℕ
  pub error : Error
  pub number : ℕ
  pub failed : HasFailed reader from bytes error to
  pub is : e ≡ why.Io number error
  pub items : Come bytes fault (read_fault number ∷ [])
  pub lazy : Come [] more []

-- There was no number for another line.
pub record JoinsTooMany {R : Type 0} (reader : Reader R) (IsLazy : List ℕ → Type 0) (old : ReaderState) (from : R) (e : LineError) (new : ReaderState) (to : R) : Type 0 where
  pub bytes : List ℕ
  pub read : HasRead reader from bytes to
  pub passes : PassesAll old bytes
  pub is : e ≡ why.TooManyLines
  pub lazy : IsLazy bytes

-- Memory ran out.
pub record JoinsNoRoom {R : Type 0} (reader : Reader R) (IsLazy : List ℕ → Type 0) (from : R) (e : LineError) (to : R) : Type 0 where
  pub bytes : List ℕ
  pub read : HasRead reader from bytes to
  pub is : e ≡ why.Memory
  pub lazy : IsLazy bytes

-- Why no line was joined, by the entries that come of bytes and an ending, and by what is known of the bytes that were
-- read.
abbrev pub JoinsNot : {R : Type 0} → Reader R → (List ℕ → InputEnd → List Entry → Type 0) → (List ℕ → Type 0) → ReaderState → R → LineError → ReaderState → R → Type 0
JoinsNot reader Come IsLazy old from e new to =
    JoinsFault reader Come from e to ⊎ (JoinsTooMany reader IsLazy old from e new to ⊎ JoinsNoRoom reader IsLazy from e to)

abbrev pub JoinsError : {R : Type 0} → Reader R → ReaderState → R → LineError → ReaderState → R → Type 0
JoinsError reader old from e new to =
    JoinsNot reader (λ bytes ending entries. items_to_come old bytes ending ≡ entries) (λ bytes. IsLazyItems old from bytes to) old from e new to

-- ---- continuations

-- an unfinished logical line with this text and number
abbrev pub join_of : ℕ → List ℕ → Option format.Line
join_of number text = Some (record { number = number; text = text })

-- These lines end a group that begins with open lines; or they are open too, and the input ended.
abbrev pub EndJoin : List format.Line → ReaderState → Type 0
EndJoin lines new = ((l : format.Line) → is_open l.text ≡ true → EndsClosed l lines) ⊎ (new.is_done ≡ true) × AreOpen lines

-- Nothing was read; or the bytes already held did not finish the line.
abbrev pub IsLazyJoin : {R : Type 0} → ReaderState → R → List ℕ → List ℕ → R → Type 0
IsLazyJoin old from text bytes to = ((to ≡ from) × (bytes ≡ [])) ⊎ ((number : ℕ) → entries_pending (join_of number text) old [] more ≡ [])

-- Such lines were joined to an unfinished line.
pub record JoinsLines {R : Type 0} (reader : Reader R) (AreSuch : List format.Line → Type 0) (old : ReaderState) (from : R) (old_text text : List ℕ) (new : ReaderState) (to : R) : Type 0 where
  pub bytes : List ℕ
  pub read : HasRead reader from bytes to
  pub lines : List format.Line
  pub passes : Passes old bytes lines new
  pub are_such : AreSuch lines
  pub is : text ≡ old_text ++ joined_after lines
  pub encoding : KeepsEncoding old new
  pub done : old.is_done ≡ true → new.is_done ≡ true
  pub ended : new.is_done ≡ true → (old.is_done ≡ true) ⊎ (has_ended reader to ≡ true)
  pub idle : old.is_done ≡ true → (bytes ≡ []) × (to ≡ from)
  pub lazy : IsLazyJoin old from old_text bytes to

-- The logical line was read to its end.
abbrev pub JoinsAll : {R : Type 0} → Reader R → ReaderState → R → (old_text text : List ℕ) → ReaderState → R → Type 0
JoinsAll reader old from old_text text new to = JoinsLines reader (λ lines. EndJoin lines new) old from old_text text new to

-- It wasn't: the unfinished line is lost.
abbrev pub JoinError : {R : Type 0} → Reader R → ReaderState → R → List ℕ → LineError → ReaderState → R → Type 0
JoinError reader old from old_text e new to =
    JoinsNot reader (λ bytes ending entries. (number : ℕ) → entries_pending (join_of number old_text) old bytes ending ≡ entries)
    (λ bytes. IsLazyJoin old from old_text bytes to) old from e new to

-- The line couldn't be read to its end. The reading ended permanently, and the error is kept.
pub record JoinsNone {R : Type 0} (reader : Reader R) (old : LineReading) (from : R) (old_text : List ℕ) (new : LineReading) (to : R) : Type 0 where
  pub live : old.state.is_done ≡ false
  pub done : new.state.is_done ≡ true
  pub error : LineError
  pub kept : new.error ≡ Some error
  pub why : JoinError reader old.state from old_text error new.state to

-- the effect of reading a logical line to its end
abbrev pub JoinsOn : {R : Type 0} → Reader R → LineReading → R → List ℕ → Bool → LineReading → R → List ℕ → Type 0
JoinsOn reader old from old_text true new to text = JoinsAll reader old.state from old_text text new.state to × (new.error ≡ None)
JoinsOn reader old from old_text false new to text = JoinsNone reader old from old_text new to

-- The line is a group of natural lines, joined, with the number of the first. It is complete; or it is the last line,
-- and the input ended.
pub record JoinsGroup (old : ReaderState) (bytes : List ℕ) (line : format.Line) (new : ReaderState) : Type 0 where
  pub first : format.Line
  pub others : List format.Line
  pub passes : Passes old bytes (first ∷ others) new
  pub number : line.number ≡ first.number
  pub text : line.text ≡ joined (first ∷ others)
  pub ends : IsWhole (first ∷ others) ⊎ (new.is_done ≡ true) × IsUnfinished (first ∷ others)

-- This logical line was read.
pub record JoinsLine {R : Type 0} (reader : Reader R) (old : ReaderState) (from : R) (line : format.Line) (new : ReaderState) (to : R) : Type 0 where
  pub bytes : List ℕ
  pub read : HasRead reader from bytes to
  pub live : old.is_done ≡ false
  pub comes : Comes old bytes line new
  pub group : JoinsGroup old bytes line new
  pub passes : new.is_done ≡ false → PassesSome old bytes new
  pub ended : new.is_done ≡ true → has_ended reader to ≡ true
  pub lazy : IsLazyItems old from bytes to

-- A logical line was returned.
abbrev pub JoinsNext : {R : Type 0} → Reader R → ReaderState → R → ℕ → LineState → R → Type 0
JoinsNext reader old from number new to = JoinsLine reader old from (numbered_line number new) new.state to

-- No line was returned, and the reading ended permanently. The error is kept until it is returned.
pub record StopsJoining {R : Type 0} (reader : Reader R) (old : LineJoining) (from : R) (new : LineJoining) (to : R) : Type 0 where
  pub live : old.at.state.is_done ≡ false
  pub done : new.at.state.is_done ≡ true
  pub error : LineError
  pub kept : new.error ≡ Some error
  pub why : JoinsError reader old.at.state from error new.at.state to

-- No line was returned. After the permanent end, nothing is read.
abbrev pub JoinsNoLine : {R : Type 0} → Reader R → LineJoining → R → LineJoining → R → Type 0
JoinsNoLine reader old from new to = (old.at.state.is_done ≡ true) × (new ≡ old) × (to ≡ from) ⊎ StopsJoining reader old from new to

-- The effect of advancing to the next logical line as a text.
abbrev pub Joins : {R : Type 0} → Reader R → LineJoining → R → Option ℕ → LineJoining → R → Type 0
Joins reader old from None new to = JoinsNoLine reader old from new to
Joins reader old from (Some number) new to =
    JoinsNext reader old.at.state from number new.at to × (new.has_backslash ≡ false → holds_backslash (chars new.at.line) ≡ false)
    × (new.error ≡ None)

-- A logical line was returned, in windows-1252 or in well-formed UTF-8.
pub record JoinsBytes {R : Type 0} (reader : Reader R) (old : LineJoining) (from : R) (number : ℕ) (new : LineJoining) (to : R) : Type 0 where
  pub joins : JoinsLine reader old.at.state from (numbered_bytes number new.encoding new.at.line) new.at.state to
  pub well : IsWell new.encoding new.at.line
  pub ascii : new.is_ascii ≡ true → IsAscii new.at.line
  pub plain : new.has_backslash ≡ false → holds_backslash new.at.line ≡ false
  pub error : new.error ≡ None

-- The effect of advancing to the next logical line.
abbrev pub Advances : {R : Type 0} → Reader R → LineJoining → R → Option ℕ → LineJoining → R → Type 0
Advances reader old from None new to = JoinsNoLine reader old from new to
Advances reader old from (Some number) new to = JoinsBytes reader old from number new to

-- ---- the rest of a logical line

-- The natural line that was found, with this number, is a logical line on its own or with the lines that were joined to
-- it.
pub record ReadsWholeLine {R : Type 0} (reader : Reader R) (old : LineReading) (from : R) (number : ℕ) (lines : LineReading) (line : LogicalLine) (has_backslash : Bool) (to : R) : Type 0 where
  pub number_is : number ≡ old.state.passed
  pub error : lines.error ≡ None
  pub well : IsWell line.encoding (bytes_with line lines.line)
  pub comes : {S : ReaderState} {start : R} → FindsNext reader S start number old from
      → JoinsLine reader S start (numbered_bytes number line.encoding (bytes_with line lines.line)) lines.state to
  pub ascii : (lines.is_ascii && is_natural line.place) ≡ true → IsAscii (bytes_with line lines.line)
  pub plain : has_backslash ≡ false → holds_backslash (bytes_with line lines.line) ≡ false

-- It isn't, and the reading ended permanently.
pub record ReadsNone {R : Type 0} (reader : Reader R) (old : LineReading) (from : R) (lines : LineReading) (to : R) : Type 0 where
  pub done : lines.state.is_done ≡ true
  pub error : LineError
  pub kept : lines.error ≡ Some error
  pub why : {S : ReaderState} {start : R} → FindsNext reader S start old.state.passed old from → JoinsError reader S start error lines.state to

abbrev pub ReadsRest : {R : Type 0} → Reader R → LineReading → R → Option ℕ → LineReading → LogicalLine → Bool → R → Type 0
ReadsRest reader old from (Some number) lines line has_backslash to = ReadsWholeLine reader old from number lines line has_backslash to
ReadsRest reader old from None lines line has_backslash to = ReadsNone reader old from lines to
