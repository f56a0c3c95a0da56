-- The iterator over items as contracts see it, and the results and effects of its calls.
use Rattle.std.specs.Prelude.{◌≡◌, ◌⊎◌, ℕ, Bool, true, false, List, [], ◌∷◌, ◌++◌, Option, Some, None, Result, Ok, Err}
use Rattle.std.specs.declared.io.Error.{Error}
use Rattle.counted_io.specs.Streams.{Reader, HasRead, HasFailed, IsSameReader, has_ended}
use Rattle.properties_format.specs.Lines.{InputEnd, end, fault, more, Line as NaturalLine, IsWhole, IsUnfinished, joined}
use Rattle.properties_format.specs.Items.{Entry, malformed, read_fault}
use Rattle.properties_format.specs.Escapes.{Malformed}
use Rattle.properties_format.specs.ItemsToCome.{ReaderState, IsItemsToCome, ComesFirst, PassesSome, PassesAll, IsLazyItems, AreLinesToCome, LinesComeFirst}
use Rattle.properties_items.specs.Errors.{IsBareError, IsMalformed, IsStreamError}
pub use Rattle.properties_items.specs.Line.{format_content, entry_of}
use Rattle.properties_items.specs.declared.error.ErrorKind.TheVariants as kind
use Rattle.properties_items.specs.declared.error.PropertiesError.{PropertiesError}
use Rattle.properties_items.specs.declared.line.Line.{Line}
use Rattle.std.specs.Str.{chars}
use Rattle.properties_items.specs.declared.found.Found.{Found}
use Rattle.properties_items.specs.declared.borrowed.LineRef.{LineRef}
use Rattle.properties_items.specs.BorrowedItems.{borrowed_entry, BorrowsPlain, found_entry, IsFoundIn}

-- an iterator: its reader, its state, and the logical line that it read last, in UTF-8
pub record Iteration (R : Type 0) : Type 0 where
  pub reader : R
  pub state : ReaderState
  pub line : List ℕ

-- The bytes that were read give this entry first, whatever comes after them, and then what the new state gives; or it
-- is the last entry, and the input ended.
pub data Gives (old : ReaderState) (bytes : List ℕ) (entry : Entry) (new : ReaderState) : Type 0 where
  going_on : new.is_done ≡ false → ComesFirst old bytes entry new → Gives old bytes entry new
  at_last : new.is_done ≡ true → IsItemsToCome old bytes end (entry ∷ []) → Gives old bytes entry new

-- As `Gives`, for malformed escapes, after which nothing comes.
pub data BreaksOff (old : ReaderState) (bytes : List ℕ) (entry : Entry) (at_end : Bool) : Type 0 where
  before_all : ((d : List ℕ) (ending : InputEnd) → IsItemsToCome old (bytes ++ d) ending (entry ∷ [])) → BreaksOff old bytes entry at_end
  at_last : at_end ≡ true → IsItemsToCome old bytes end (entry ∷ []) → BreaksOff old bytes entry at_end

-- An item was returned. If the bytes already held determined it, nothing was read.
pub record GivesEntry {R : Type 0} (reader : Reader R) (old : ReaderState) (from : R) (entry : Entry) (new : ReaderState) (to : R) : Type 0 where
  pub bytes : List ℕ
  pub read : HasRead reader from bytes to
  pub live : old.is_done ≡ false
  pub gives : Gives old bytes entry new
  pub passes : new.is_done ≡ false → PassesSome old bytes new
  pub ended : new.is_done ≡ true → has_ended reader to ≡ true
  pub lazy : IsLazyItems old from bytes to

-- No more items come: the input ended, or the iterator was already at its end and reads nothing.
pub record GivesNone {R : Type 0} (reader : Reader R) (old : ReaderState) (from : R) (new : ReaderState) (to : R) : Type 0 where
  pub bytes : List ℕ
  pub read : HasRead reader from bytes to
  pub items : IsItemsToCome old bytes end []
  pub done : new.is_done ≡ true
  pub idle : old.is_done ≡ true → (new ≡ old) × (to ≡ from) × (bytes ≡ [])
  pub ended : old.is_done ≡ false → has_ended reader to ≡ true

-- An escape was malformed in the logical line that begins in the line with this number.
pub record GivesMalformed {R : Type 0} (reader : Reader R) (old : ReaderState) (from : R) (e : PropertiesError) (to : R) : Type 0 where
  pub bytes : List ℕ
  pub number : ℕ
  pub kind : Malformed
  pub read : HasRead reader from bytes to
  pub is : IsMalformed kind number e
  pub breaks : BreaksOff old bytes (malformed kind number) (has_ended reader to)
  pub lazy : IsLazyItems old from bytes to

-- A read failed, and nothing but this I/O error is left to come. Its line number is that of the line that was cut off,
-- also in a continuation.
pub record GivesFault {R : Type 0} (reader : Reader R) (old : ReaderState) (from : R) (e : PropertiesError) (to : R) : Type 0 where
  pub bytes : List ℕ
  pub error : Error
  pub number : ℕ
  pub failed : HasFailed reader from bytes error to
  pub is : IsStreamError (Some number) error e
  pub items : IsItemsToCome old bytes fault (read_fault number ∷ [])
  pub lazy : IsItemsToCome old [] more []

-- There was no number for another line.
pub record GivesTooMany {R : Type 0} (reader : Reader R) (old : ReaderState) (from : R) (e : PropertiesError) (to : R) : Type 0 where
  pub bytes : List ℕ
  pub read : HasRead reader from bytes to
  pub passes : PassesAll old bytes
  pub is : IsBareError kind.TooManyLines e
  pub lazy : IsLazyItems old from bytes to

-- Memory ran out.
pub record GivesNoRoom {R : Type 0} (reader : Reader R) (old : ReaderState) (from : R) (e : PropertiesError) (to : R) : Type 0 where
  pub bytes : List ℕ
  pub read : HasRead reader from bytes to
  pub is : IsBareError kind.Memory e
  pub lazy : IsLazyItems old from bytes to

-- Why no item could be read.
abbrev pub GivesError : {R : Type 0} → Reader R → ReaderState → R → PropertiesError → R → Type 0
GivesError reader old from e to =
    GivesMalformed reader old from e to
    ⊎ (GivesFault reader old from e to ⊎ (GivesTooMany reader old from e to ⊎ GivesNoRoom reader old from e to))

-- The next item, and the state after requesting it. After `None` and after an error the iterator is at its end.
abbrev pub GivesItem : {R : Type 0} → Reader R → ReaderState → R → Option (Result Line PropertiesError) → ReaderState → R → Type 0
GivesItem reader old from None new to = GivesNone reader old from new to
GivesItem reader old from (Some (Ok line)) new to = GivesEntry reader old from (entry_of line) new to
GivesItem reader old from (Some (Err e)) new to = (old.is_done ≡ false) × (new.is_done ≡ true) × GivesError reader old from e to

-- The next item of an iterator, which keeps the reader that it was created with.
abbrev pub NextGives : {R : Type 0} → Reader R → Iteration R → Option (Result Line PropertiesError) → Iteration R → Type 0
NextGives reader old answer new =
    GivesItem reader old.state old.reader answer new.state new.reader × IsSameReader reader old.reader new.reader

-- ---- The calls that find an item and borrow it.

-- These lines come first, whatever comes after the bytes that were read; or they are all lines, and the input ended.
pub data ComeNext (old : ReaderState) (bytes : List ℕ) (lines : List NaturalLine) (new : ReaderState) : Type 0 where
  going_on : new.is_done ≡ false → LinesComeFirst old bytes lines new → ComeNext old bytes lines new
  at_last : new.is_done ≡ true → AreLinesToCome old bytes end lines [] → ComeNext old bytes lines new

-- a logical line, which begins in the line with this number, from its bytes in UTF-8
abbrev pub joined_line : ℕ → List ℕ → NaturalLine
joined_line number bytes = record { number = number; text = chars bytes }

-- The logical line is spelt as the input spells it, with its escapes: the natural lines that came end in its group, and
-- its text is that of the group, joined. The group is whole; or it ends open, and the input ended.
pub record IsSpelt (old : ReaderState) (bytes : List ℕ) (line : NaturalLine) (new : ReaderState) : Type 0 where
  pub before : List NaturalLine
  pub first : NaturalLine
  pub others : List NaturalLine
  pub come : ComeNext old bytes (before ++ first ∷ others) new
  pub number : line.number ≡ first.number
  pub text : line.text ≡ joined (first ∷ others)
  pub ends : IsWhole (first ∷ others) ⊎ (new.is_done ≡ true) × IsUnfinished (first ∷ others)

-- The next item of an iterator as it is found in the logical line that the iterator keeps. After `None` and after an
-- error the iterator is at its end.
abbrev pub AdvancesTo : {R : Type 0} → Reader R → Iteration R → Option (Result Found PropertiesError) → Iteration R → Type 0
AdvancesTo reader old None new = GivesNone reader old.state old.reader new.state new.reader
AdvancesTo reader old (Some (Ok found)) new =
    (entry : GivesEntry reader old.state old.reader (found_entry new.line found) new.state new.reader)
    × IsFoundIn new.line found × IsSpelt old.state entry.bytes (joined_line found.line_number new.line) new.state
AdvancesTo reader old (Some (Err e)) new =
    (old.state.is_done ≡ false) × (new.state.is_done ≡ true) × GivesError reader old.state old.reader e new.reader

-- The iterator keeps the reader that it was created with.
abbrev pub AdvanceGives : {R : Type 0} → Reader R → Iteration R → Option (Result Found PropertiesError) → Iteration R → Type 0
AdvanceGives reader old answer new =
    AdvancesTo reader old answer new × IsSameReader reader old.reader new.reader

-- The next item as it is borrowed, and the state after that.
abbrev pub BorrowsItem : {R : Type 0} → Reader R → Iteration R → Option (Result LineRef PropertiesError) → Iteration R → Type 0
BorrowsItem reader old None new = GivesNone reader old.state old.reader new.state new.reader
BorrowsItem reader old (Some (Ok line)) new =
    (entry : GivesEntry reader old.state old.reader (borrowed_entry line) new.state new.reader)
    × BorrowsPlain (chars new.line) line.content × IsSpelt old.state entry.bytes (joined_line line.line_number new.line) new.state
BorrowsItem reader old (Some (Err e)) new =
    (old.state.is_done ≡ false) × (new.state.is_done ≡ true) × GivesError reader old.state old.reader e new.reader

-- The iterator has a state after the call for which this is the next item.
abbrev pub NextRefGives : {R : Type 0} → Reader R → Iteration R → Option (Result LineRef PropertiesError) → Type 0
NextRefGives {R} reader old answer = (new : Iteration R) × BorrowsItem reader old answer new × IsSameReader reader old.reader new.reader
