-- The scanner of natural lines as contracts see it, and the results and effects of its calls.
--
-- A scanner holds no bytes. Together with the bytes that its caller holds, it has the state of a reader, and the format
-- says what comes next in that state.
use Rattle.std.specs.Prelude.{◌≡◌, ◌≢◌, ◌⊎◌, ◌↔◌, ℕ, ◌+◌, ◌-◌, ◌^◌, ◌<◌, ◌≤◌, Bool, true, false, if◌then◌else◌, List, [], ◌∷◌, ◌++◌, take, drop, length, get_or, Option, Some, None}
use Rattle.std.specs.List.{All}
use Rattle.std.specs.Str.{IsAscii}
use Rattle.properties_format.specs.Text as text
use Rattle.properties_format.specs.Encoding.{Encoding, InForce, IsAligned, byte_order_mark}
use Rattle.properties_format.specs.Lines as format
use Rattle.properties_format.specs.Lines.{InputEnd, end, more}
use Rattle.properties_format.specs.Cut.{units, HoldsNoLineEndingUnit, line_ending_bytes}
use Rattle.properties_format.specs.Computed.Lines.{begins_with_lf}
use Rattle.properties_format.specs.Computed.Cut.{decoded_line}
use Rattle.properties_format.specs.ItemsToCome.{ReaderState}
use Rattle.properties_format.specs.Computed.ItemsToCome.{natural_to_come, Gives, ReadsLines}
use Rattle.properties_text.specs.Encoding.{encoding_of}
use Rattle.properties_text.specs.Escaping.{holds_backslash}
use Rattle.properties_text.specs.declared.encoding.byte_order_mark.ByteOrderMark.{ByteOrderMark}
use Rattle.properties_text.specs.declared.encoding.byte_order_mark.ByteOrderMark.TheVariants.{Undecided}
use Rattle.properties_lines.specs.LineSearch.{unit_size, whole_units, IsSearched}
use Rattle.properties_lines.specs.declared.search.BlockSearch.{BlockSearch}
use Rattle.properties_lines.specs.declared.search.BlockSearch.TheVariants.{Found, Searched}
use Rattle.properties_lines.specs.declared.scanner.Front.{Front}
use Rattle.properties_lines.specs.declared.scanner.Front.TheVariants.{Mark, Feed, Nothing}
use Rattle.properties_lines.specs.declared.scanner.RawLine.{RawLine}
use Rattle.properties_lines.specs.declared.scanner.Scanner.{Scanner}
use Rattle.properties_lines.specs.declared.scanner.Scan.{Scan}
use Rattle.properties_lines.specs.declared.scanner.Scan.TheVariants.{Line, More, End, TooMany}

-- ---- the state of a scanner

-- whether the encoding in force is known
abbrev pub is_decided : Front → Bool
is_decided Mark = false
is_decided front = true

-- whether the line ending before is a CR whose LF may still come
abbrev pub after_cr : Front → Bool
after_cr Feed = true
after_cr front = false

-- the reader state of a scanner with these bytes: a reader that holds those from the scanner's place on
abbrev pub scanner_state : Scanner → List ℕ → ReaderState
scanner_state s held = record {
  encoding = encoding_of s.encoding;
  is_decided = is_decided s.front;
  held = drop s.at held;
  passed = s.passed;
  after_cr = after_cr s.front;
  is_done = s.is_done;
}

-- Once the encoding in force is known, it stays.
abbrev pub KeepsEncoding : ReaderState → ReaderState → Type 0
KeepsEncoding old new = old.is_decided ≡ true → (new.is_decided ≡ true) × (new.encoding ≡ old.encoding)

-- the bytes of a line
abbrev pub raw_line_bytes : List ℕ → RawLine → List ℕ
raw_line_bytes held line = take (line.end - line.start) (drop line.start held)

-- The scanner may be called with these bytes: its place is among them, the searched bytes contain no line ending, and
-- the line that was found last is within them. While something may come before the line, no byte is searched.
pub record Fits (s : Scanner) (held : List ℕ) : Type 0 where
  pub within : s.at ≤ length held
  pub searched : IsSearched (encoding_of s.encoding) (drop s.at held) s.searched
  pub fresh : s.front ≢ Nothing → s.searched ≡ 0
  pub line : (s.line.start ≤ s.line.end) × (s.line.end ≤ length held)

-- ---- what comes

-- Any bytes and any ending may come after the bytes that are held; or, if these were the last, nothing comes, and the
-- input ends.
abbrev pub MayCome : Bool → List ℕ → InputEnd → Type 0
MayCome false d ending = Unit {0}
MayCome true d ending = (d ≡ []) × (ending ≡ end)

-- Whatever may come, the reader first gives these lines, and after them what the new state gives.
pub record LinesCome (ended : Bool) (old : ReaderState) (lines : List format.Line) (new : ReaderState) : Type 0 where
  pub gives : (d : List ℕ) (ending : InputEnd) → MayCome ended d ending → Gives old d lines new d ending

-- the size of an LF at the front, or 0 if there is none
abbrev pub feed_size : Encoding → List ℕ → ℕ
feed_size e d = if begins_with_lf (units e d) then unit_size e else 0

-- the encoding in force if nothing else comes, and the bytes after a byte order mark, or after an LF of the line ending
-- before
abbrev pub front_of : ReaderState → InForce
front_of s =
    if s.is_decided then record { encoding = s.encoding; body = if s.after_cr then drop (feed_size s.encoding s.held) s.held else s.held }
    else byte_order_mark s.encoding s.held

-- ---- a line

-- What is known of a line: whether it consists of ASCII characters of one byte each, and whether one of its bytes is
-- the byte of a backslash.
pub record HasRightFlags (e : Encoding) (bytes : List ℕ) (line : RawLine) : Type 0 where
  pub ascii : (line.is_ascii ≡ true) ↔ (unit_size e ≡ 1) × IsAscii bytes
  pub backslash : line.has_backslash ≡ holds_backslash bytes

-- the bytes of a line ending, if there is one
abbrev pub ending_bytes_in : Encoding → Option text.LineEnding → List ℕ
ending_bytes_in e None = []
ending_bytes_in e (Some by) = line_ending_bytes e by

-- when a line ending is complete, as far as the bytes after it show: no LF comes after a CR
abbrev pub EndsWhole : Encoding → Option text.LineEnding → List ℕ → Type 0
EndsWhole e None rest = rest ≡ []
EndsWhole e (Some text.lf) rest = Unit {0}
EndsWhole e (Some text.crlf) rest = Unit {0}
EndsWhole e (Some text.cr) rest = begins_with_lf (units e rest) ≡ false

-- The bytes that are held from the line's start on consist of the line, its line ending and a rest, which begins at
-- this place.
pub record IsCutOff (e : Encoding) (held : List ℕ) (line : RawLine) (next : ℕ) : Type 0 where
  pub ending : Option text.LineEnding
  pub ordered : (line.start ≤ line.end) × (line.end ≤ next) × (next ≤ length held)
  pub division : drop line.start held ≡ raw_line_bytes held line ++ (ending_bytes_in e ending ++ drop next held)
  pub aligned : ending ≡ None ⊎ IsAligned e (raw_line_bytes held line)
  pub none : HoldsNoLineEndingUnit e (raw_line_bytes held line)
  pub whole : EndsWhole e ending (drop next held)

-- the line that a scanner found last, decoded, with its number
abbrev pub scanned_line : List ℕ → Scanner → format.Line
scanned_line held s = record { number = s.passed; text = decoded_line (encoding_of s.encoding) (raw_line_bytes held s.line) }

-- ---- the result of a call

-- A line was found, and what comes from the place after it on follows.
pub record GivesScannedLine (old : Scanner) (held : List ℕ) (ended : Bool) (new : Scanner) : Type 0 where
  pub live : old.is_done ≡ false
  pub number : new.passed ≡ old.passed + 1
  pub numbered : old.passed + 1 < 2 ^ 64
  pub comes : LinesCome ended (scanner_state old held) (scanned_line held new ∷ []) (scanner_state new held)
  pub cut : IsCutOff (encoding_of new.encoding) held new.line new.at
  pub front : front_of (scanner_state old held) ≡ record { encoding = encoding_of new.encoding; body = drop new.line.start held }
  pub short : new.front ≡ Feed → length (drop new.at held) < unit_size (encoding_of new.encoding)
  pub decided : is_decided new.front ≡ true
  pub going : (new.is_done ≡ false) × (cut.ending ≢ None) ⊎ (new.is_done ≡ true) × (cut.ending ≡ None) × (ended ≡ true)
  pub fits : Fits new held
  pub flags : HasRightFlags (encoding_of new.encoding) (raw_line_bytes held new.line) new.line

-- No line ending is held, so no line comes until more bytes do. What comes with them stays the same. The scanner keeps
-- its place, unless it skipped what comes before the line. All bytes that are held were searched, unless something may
-- still come before the line.
pub record AsksForMore (old : Scanner) (held : List ℕ) (new : Scanner) : Type 0 where
  pub live : old.is_done ≡ false
  pub numbered : old.passed + 1 < 2 ^ 64
  pub none : natural_to_come (scanner_state old held) [] more ≡ []
  pub alike : ReadsLines (scanner_state old held) [] [] (scanner_state new held)
  pub passed : new.passed ≡ old.passed
  pub done : new.is_done ≡ old.is_done
  pub line : new.line ≡ old.line
  pub encoding : KeepsEncoding (scanner_state old held) (scanner_state new held)
  pub stays : (new.at ≡ old.at) × (new.front ≡ old.front) ⊎ (old.front ≢ Nothing) × (new.front ≡ Nothing)
  pub front : (new.at ≡ old.at) ⊎ (front_of (scanner_state old held) ≡ record { encoding = encoding_of new.encoding; body = drop new.at held })
  pub fits : Fits new held
  pub saw : new.front ≡ Nothing → new.searched ≡ whole_units (encoding_of new.encoding) (length (drop new.at held))

-- The result of a call. More bytes are requested only if more may come.
abbrev pub Scans : Scanner → List ℕ → Bool → Scan → Scanner → Type 0
Scans old held ended Line new = GivesScannedLine old held ended new
Scans old held ended More new = (ended ≡ false) × AsksForMore old held new
Scans old held ended End new = (old.is_done ≡ true) × (new ≡ old)
Scans old held ended TooMany new = (old.is_done ≡ false) × (old.passed + 1 ≡ 2 ^ 64) × (new ≡ old)

-- ---- what may come before a line

-- What may come before the line was skipped; or more bytes are needed to decide whether it is there, and no line ending
-- is held.
pub record IsAlike (old : Scanner) (held : List ℕ) (ended : Bool) (new : Scanner) : Type 0 where
  pub comes : LinesCome ended (scanner_state old held) [] (scanner_state new held)
  pub same : new ≡ record old { encoding = new.encoding; front = Nothing; at = new.at }
  pub fits : Fits new held
  pub front : front_of (scanner_state old held) ≡ record { encoding = encoding_of new.encoding; body = drop new.at held }

abbrev pub SkipsFront : Scanner → List ℕ → Bool → Bool → Scanner → Type 0
SkipsFront old held ended true new = IsAlike old held ended new
SkipsFront old held ended false new = (ended ≡ false) × (new ≡ old) × (natural_to_come (scanner_state old held) [] more ≡ []) × (old.front ≢ Nothing)

-- An LF that belongs to the CR before it was skipped if it is there; or more bytes are needed to decide, and the
-- scanner waits for them.
abbrev pub SkipsFeed : Scanner → List ℕ → Bool → Bool → Scanner → Type 0
SkipsFeed old held ended true new =
    (ended ≡ false → unit_size (encoding_of old.encoding) ≤ length (drop old.at held))
    × (new ≡ record old { at = old.at + feed_size (encoding_of old.encoding) (drop old.at held) })
SkipsFeed old held ended false new =
    (ended ≡ false) × (length (drop old.at held) < unit_size (encoding_of old.encoding)) × (new ≡ record old { front = Feed })

-- ---- the search

-- A line may be searched for: the scan hasn't ended, there is a number for the line, and nothing may come before it.
pub record IsReady (s : Scanner) (held : List ℕ) : Type 0 where
  pub fits : Fits s held
  pub live : s.is_done ≡ false
  pub numbered : s.passed + 1 < 2 ^ 64
  pub settled : s.front ≡ Nothing

-- The search begins at the line's first byte, and units are one byte long.
pub record IsFresh (s : Scanner) : Type 0 where
  pub size : unit_size (encoding_of s.encoding) ≡ 1
  pub nothing : s.searched ≡ 0

-- A line was taken up to its line ending.
pub record ScansLine (old : Scanner) (held : List ℕ) (new : Scanner) : Type 0 where
  pub comes : ReadsLines (scanner_state old held) [] (scanned_line held new ∷ []) (scanner_state new held)
  pub cut : IsCutOff (encoding_of old.encoding) held new.line new.at
  pub ended : cut.ending ≢ None
  pub starts : new.line.start ≡ old.at
  pub same : new ≡ record old { front = new.front; passed = old.passed + 1; at = new.at; searched = 0; line = new.line }
  pub decided : is_decided new.front ≡ true
  pub short : new.front ≡ Feed → length (drop new.at held) < unit_size (encoding_of old.encoding)
  pub fits : Fits new held
  pub flags : HasRightFlags (encoding_of old.encoding) (raw_line_bytes held new.line) new.line

-- No line ending is held, and all whole units were searched.
pub record LacksEnd (old : Scanner) (held : List ℕ) (new : Scanner) : Type 0 where
  pub none : HoldsNoLineEndingUnit (encoding_of old.encoding) (drop old.at held)
  pub same : new ≡ record old { searched = whole_units (encoding_of old.encoding) (length (drop old.at held)) }

abbrev pub Searches : Scanner → List ℕ → Bool → Scanner → Type 0
Searches old held true new = ScansLine old held new
Searches old held false new = LacksEnd old held new

-- The last line was taken.
pub record TakesLast (old : Scanner) (held : List ℕ) (new : Scanner) : Type 0 where
  pub same : new ≡ record old { is_done = true; passed = old.passed + 1; at = length held; searched = 0; line = new.line }
  pub starts : new.line.start ≡ old.at
  pub ends : new.line.end ≡ length held
  pub flags : HasRightFlags (encoding_of old.encoding) (drop old.at held) new.line

-- No byte before this place passes the test, and `is_ascii` says whether these bytes are ASCII.
pub record IsBefore (test : ℕ → Bool) (bytes : List ℕ) (at : ℕ) (is_ascii : Bool) : Type 0 where
  pub within : at ≤ length bytes
  pub clear : All (λ b. test b ≡ false) (take at bytes)
  pub ascii : (is_ascii ≡ true) ↔ All (λ b. b < 0x80) (take at bytes)

-- The first byte that passes the test is at this place, and `is_ascii` says whether those before it are ASCII; or no
-- byte before this place passes it, and fewer than sixteen come after them.
abbrev pub FindsByte : (ℕ → Bool) → List ℕ → BlockSearch → Type 0
FindsByte test bytes (Found size is_ascii) = IsBefore test bytes size is_ascii × (size < length bytes) × (test (get_or bytes size 0) ≡ true)
FindsByte test bytes (Searched count) = (count ≤ length bytes) × (length bytes < count + 16) × All (λ b. test b ≡ false) (take count bytes)

-- whether a byte before the place that was found is a backslash
abbrev pub TellsBackslash : List ℕ → BlockSearch → Bool → Type 0
TellsBackslash bytes (Found size is_ascii) has_backslash = has_backslash ≡ holds_backslash (take size bytes)
TellsBackslash bytes (Searched count) has_backslash = Unit {0}

-- whether more bytes are needed to decide if there is a byte order mark
abbrev pub is_undecided : ByteOrderMark → Bool
is_undecided Undecided = true
is_undecided mark = false
