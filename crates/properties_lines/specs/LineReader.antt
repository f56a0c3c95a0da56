-- The reader of natural lines as contracts see it, and the results and effects of its calls.
use Rattle.std.specs.Prelude.{◌≡◌, ◌⊎◌, ◌+◌, ◌-◌, ◌^◌, ◌<◌, ◌≤◌, ◌++◌, length, ℕ, Bool, true, false, if◌then◌else◌, List, [], ◌∷◌, Option, Some, None}
use Rattle.std.specs.declared.io.Error.{Error}
use Rattle.counted_io.specs.Streams.{Reader, HasRead, HasFailed, has_ended}
use Rattle.properties_format.specs.Lines as format
use Rattle.properties_format.specs.Lines.{end, fault, more}
use Rattle.properties_format.specs.Text.{piece_characters}
use Rattle.properties_format.specs.Computed.Encoding.{pieces_of}
use Rattle.properties_format.specs.Items.{read_fault}
use Rattle.properties_format.specs.ItemsToCome.{ReaderState}
use Rattle.properties_format.specs.Computed.ItemsToCome.{natural_to_come, last_to_come, Gives, ReadsLines}
use Rattle.properties_lines.specs.Scanner.{HasRightFlags, LinesCome, KeepsEncoding}
use Rattle.properties_lines.specs.declared.error.LineError.TheVariants as why
use Rattle.properties_lines.specs.declared.error.LineError.{LineError}
use Rattle.properties_lines.specs.declared.reader.Read.{Read}
use Rattle.properties_lines.specs.declared.reader.Read.TheVariants.{Bytes, End, Failed}
use Rattle.properties_lines.specs.declared.scanner.Scan.{Scan}
use Rattle.properties_lines.specs.declared.scanner.Scan.TheVariants as scan
use Rattle.properties_lines.specs.declared.scanner.Scan.TheVariants.{Line, More, TooMany}

-- a reader: its state, the bytes of the line that it found last and what is known of them, how many bytes were read but
-- not passed, and the error that is kept
pub record LineReading : Type 0 where
  pub state : ReaderState
  pub line : List ℕ
  pub is_ascii : Bool
  pub has_backslash : Bool
  pub waiting : ℕ
  pub error : Option LineError

-- What is known of that line is true.
abbrev pub HasRightLineFlags : LineReading → Type 0
HasRightLineFlags f = (start end : ℕ) → HasRightFlags f.state.encoding f.line (record { start = start; end = end; is_ascii = f.is_ascii; has_backslash = f.has_backslash })

-- an upper bound for the number of lines to come: the line numbers that are left
abbrev pub lines_left : ReaderState → ℕ
lines_left s = if s.is_done then 0 else 2 ^ 64 - s.passed

-- whether a byte order mark, or an LF of the line ending before, may come next
abbrev pub awaits_front : ReaderState → Bool
awaits_front s = if s.is_decided then s.after_cr else true

-- an upper bound for the number of reads before the next line: memory can't hold more waiting bytes, and what may come
-- before the line is skipped only once
abbrev pub reads_left : LineReading → ℕ
reads_left f = (if awaits_front f.state then 2 ^ 64 else 0) + (2 ^ 64 - f.waiting)

-- ---- reading on

-- Nothing was read; or the bytes already held determined no line, so a read was needed.
abbrev pub IsLazy : {R : Type 0} → ReaderState → R → List ℕ → R → Type 0
IsLazy old from r to = ((to ≡ from) × (r ≡ [])) ⊎ (natural_to_come old [] more ≡ [])

-- ---- one read

-- The line that was found last is released or kept.
abbrev pub ReleasesOrKeeps : LineReading → LineReading → Type 0
ReleasesOrKeeps old new = (new.line ≡ old.line) ⊎ (new.line ≡ [])

-- These bytes were read, and are held after the others.
pub record ReadsBytes {R : Type 0} (reader : Reader R) (old : LineReading) (from : R) (bytes : List ℕ) (new : LineReading) (to : R) : Type 0 where
  pub read : HasRead reader from bytes to
  pub state : new.state ≡ record old.state { held = old.state.held ++ bytes }
  pub waiting : new.waiting ≡ old.waiting + length bytes
  pub error : new.error ≡ old.error
  pub line : ReleasesOrKeeps old new

-- The reading ended permanently, with this error.
pub record HasFailedFor (old : LineReading) (e : LineError) (new : LineReading) : Type 0 where
  pub done : new.state.is_done ≡ true
  pub error : new.error ≡ Some e
  pub line : ReleasesOrKeeps old new

-- why a read returned nothing: it failed in the line that is held so far, or memory for it ran out
abbrev pub IsReadError : {R : Type 0} → Reader R → LineReading → R → LineError → R → Type 0
IsReadError reader old from (why.Io number error) to = (number ≡ old.state.passed + 1) × HasFailed reader from [] error to
IsReadError reader old from why.TooManyLines to = ⊥
IsReadError reader old from why.Memory to = to ≡ from

-- The result of a read: some bytes, the end of the input, or an error.
abbrev pub Reads : {R : Type 0} → Reader R → LineReading → R → Read → LineReading → R → Type 0
Reads reader old from Bytes new to = (bytes : List ℕ) × (0 < length bytes) × ReadsBytes reader old from bytes new to
Reads reader old from End new to = ReadsBytes reader old from [] new to × (has_ended reader to ≡ true)
Reads reader old from Failed new to = (e : LineError) × IsReadError reader old from e to × HasFailedFor old e new

-- ---- finding lines

-- These lines come first, whatever comes after the bytes that were read; or they are all lines, and the input ended.
pub data Passes (old : ReaderState) (bytes : List ℕ) (lines : List format.Line) (new : ReaderState) : Type 0 where
  going_on : new.is_done ≡ false → ReadsLines old bytes lines new → Passes old bytes lines new
  at_last : new.is_done ≡ true → Gives old bytes lines new [] end → Passes old bytes lines new

-- the line that was found, decoded, with this number
abbrev pub found_line : ℕ → LineReading → format.Line
found_line number lines = record { number = number; text = piece_characters (pieces_of lines.state.encoding lines.line) }

-- A line was found.
pub record FindsNext {R : Type 0} (reader : Reader R) (old : ReaderState) (from : R) (number : ℕ) (new : LineReading) (to : R) : Type 0 where
  pub bytes : List ℕ
  pub read : HasRead reader from bytes to
  pub live : old.is_done ≡ false
  pub numbered : number ≡ old.passed + 1
  pub passes : Passes old bytes (found_line number new ∷ []) new.state
  pub counted : new.state.is_done ≡ false → new.state.passed ≡ number
  pub decided : new.state.is_decided ≡ true
  pub encoding : KeepsEncoding old new.state
  pub ended : new.state.is_done ≡ true → has_ended reader to ≡ true
  pub lazy : IsLazy old from bytes to

-- A read failed in the line with this number, and nothing but this I/O error is left to come.
pub record FindsFault {R : Type 0} (reader : Reader R) (old : ReaderState) (from : R) (e : LineError) (to : R) : Type 0 where
  pub bytes : List ℕ
  pub error : Error
  pub numbered : old.passed + 1 < 2 ^ 64
  pub failed : HasFailed reader from bytes error to
  pub is : e ≡ why.Io (old.passed + 1) error
  pub natural : natural_to_come old bytes fault ≡ []
  pub last : last_to_come old bytes fault ≡ read_fault (old.passed + 1) ∷ []
  pub lazy : natural_to_come old [] more ≡ []

-- There was no number for another line, and nothing was read.
pub record FindsTooMany {R : Type 0} (old : ReaderState) (from : R) (e : LineError) (new : ReaderState) (to : R) : Type 0 where
  pub passed : old.passed + 1 ≡ 2 ^ 64
  pub is : e ≡ why.TooManyLines
  pub untouched : to ≡ from

-- Memory ran out while there was a number for another line.
pub record FindsNoRoom {R : Type 0} (reader : Reader R) (old : ReaderState) (from : R) (e : LineError) (to : R) : Type 0 where
  pub bytes : List ℕ
  pub read : HasRead reader from bytes to
  pub lazy : IsLazy old from bytes to
  pub numbered : old.passed + 1 < 2 ^ 64
  pub is : e ≡ why.Memory

-- Why no line was found.
abbrev pub FindsError : {R : Type 0} → Reader R → ReaderState → R → LineError → ReaderState → R → Type 0
FindsError reader old from e new to = FindsFault reader old from e to ⊎ (FindsTooMany old from e new to ⊎ FindsNoRoom reader old from e to)

-- No line was found, and the reading ended permanently. The error is kept until it is returned.
pub record FindsNone {R : Type 0} (reader : Reader R) (old : LineReading) (from : R) (new : LineReading) (to : R) : Type 0 where
  pub live : old.state.is_done ≡ false
  pub error : LineError
  pub why : FindsError reader old.state from error new.state to
  pub failed : HasFailedFor old error new

-- The effect of finding the next line. After the permanent end, nothing is read.
abbrev pub Finds : {R : Type 0} → Reader R → LineReading → R → Bool → LineReading → R → Type 0
Finds reader old from true new to = FindsNext reader old.state from new.state.passed new to × HasRightLineFlags new × (new.error ≡ None)
Finds reader old from false new to = (old.state.is_done ≡ true) × (new ≡ old) × (to ≡ from) ⊎ FindsNone reader old from new to

-- ---- searching the bytes that are held

-- A line is held with its end, or as the last line of the input.
pub record HoldsLine (old : LineReading) (ended : Bool) (new : LineReading) : Type 0 where
  pub live : old.state.is_done ≡ false
  pub number : new.state.passed ≡ old.state.passed + 1
  pub comes : LinesCome ended old.state (found_line new.state.passed new ∷ []) new.state
  pub going : (new.state.is_done ≡ false) ⊎ (new.state.is_done ≡ true) × (ended ≡ true)
  pub fits : new.state.passed < 2 ^ 64
  pub decided : new.state.is_decided ≡ true
  pub encoding : KeepsEncoding old.state new.state
  pub flags : HasRightLineFlags new
  pub error : new.error ≡ None

-- No line is held with its end.
pub record HoldsNone (old new : LineReading) : Type 0 where
  pub live : old.state.is_done ≡ false
  pub numbered : old.state.passed + 1 < 2 ^ 64
  pub none : natural_to_come old.state [] more ≡ []
  pub alike : ReadsLines old.state [] [] new.state
  pub passed : new.state.passed ≡ old.state.passed
  pub done : new.state.is_done ≡ old.state.is_done
  pub encoding : KeepsEncoding old.state new.state
  pub nearer : reads_left new ≤ reads_left old
  pub error : new.error ≡ old.error
  pub line : new.line ≡ old.line

abbrev pub ScansHeld : LineReading → Bool → Scan → LineReading → Type 0
ScansHeld old ended Line new = HoldsLine old ended new
ScansHeld old ended More new = (ended ≡ false) × HoldsNone old new
ScansHeld old ended scan.End new = (old.state.is_done ≡ true) × (new ≡ old)
ScansHeld old ended TooMany new = (old.state.is_done ≡ false) × (old.state.passed + 1 ≡ 2 ^ 64) × (new ≡ old)
