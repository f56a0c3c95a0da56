-- What copying does: it takes the next item of an iterator, and writes it if it is a pair.
use Rattle.std.specs.Prelude.{◌≡◌, All, ℕ, true, false, List, Result, Ok, Err}
use Rattle.counted_io.specs.Streams.{Reader, Sink}
use Rattle.properties_format.specs.Text.{scalar}
use Rattle.properties_format.specs.Items.{Content, comment, pair, item}
use Rattle.java_properties.specs.PropertiesIter.{Iteration, GivesEntry, GivesNone, GivesError}
use Rattle.java_properties.specs.PropertiesWriter.{Writing, WritesLine}
use Rattle.properties_items.specs.declared.error.PropertiesError.{PropertiesError}
use Rattle.java_properties.specs.declared.copy.CopyError.{CopyError}
use Rattle.java_properties.specs.declared.copy.CopyError.TheVariants.{Read, Write}

-- the error of the reading or of the writing
abbrev pub error_in : CopyError → PropertiesError
error_in (Read error) = error
error_in (Write error) = error

-- the texts of a pair are of scalar values
abbrev pub HasScalars : Content → Type 0
HasScalars (comment text) = Unit {0}
HasScalars (pair key value) = All scalar key × All scalar value

-- A pair is written as one line, and a comment isn't.
abbrev pub WritesIfPair : {W : Type 0} → Sink W → Writing W → Content → Result Unit PropertiesError → Writing W → Type 0
WritesIfPair sink old (comment text) result new = (result ≡ Ok tt) × (new ≡ old)
WritesIfPair sink old (pair key value) result new = WritesLine sink old (pair key value) result new

-- The next item was read. If it is a pair, it was written.
pub record CopiesItem {R W : Type 0} (reader : Reader R) (sink : Sink W) (old : Iteration R) (writer : Writing W) (new : Iteration R)
    (written : Writing W) : Type 0 where
  pub number : ℕ
  pub content : Content
  pub gives : GivesEntry reader old.state old.reader (item number content) new.state new.reader
  pub scalars : HasScalars content
  pub writes : WritesIfPair sink writer content (Ok tt) written

-- No more items come, and nothing was written.
pub record CopiesNone {R W : Type 0} (reader : Reader R) (old : Iteration R) (writer : Writing W) (new : Iteration R) (written : Writing W) : Type 0 where
  pub gives : GivesNone reader old.state old.reader new.state new.reader
  pub same : written ≡ writer

-- No item could be read, nothing was written, and the iterator is at its end.
pub record FailsToRead {R W : Type 0} (reader : Reader R) (old : Iteration R) (writer : Writing W) (error : PropertiesError) (new : Iteration R)
    (written : Writing W) : Type 0 where
  pub live : old.state.is_done ≡ false
  pub done : new.state.is_done ≡ true
  pub why : GivesError reader old.state old.reader error new.reader
  pub same : written ≡ writer

-- The next item is a pair, and writing it failed.
pub record FailsToWrite {R W : Type 0} (reader : Reader R) (sink : Sink W) (old : Iteration R) (writer : Writing W) (error : PropertiesError)
    (new : Iteration R) (written : Writing W) : Type 0 where
  pub number : ℕ
  pub key : List ℕ
  pub value : List ℕ
  pub gives : GivesEntry reader old.state old.reader (item number (pair key value)) new.state new.reader
  pub scalars : HasScalars (pair key value)
  pub writes : WritesLine sink writer (pair key value) (Err error) written

-- Items were copied in turn. Then no more came; or reading the next one failed; or writing it did.
pub data Copies {R W : Type 0} (reader : Reader R) (sink : Sink W) : Iteration R → Writing W → Result Unit CopyError → Iteration R → Writing W → Type 0 where
  goes_on : {old : Iteration R} {writer : Writing W} {result : Result Unit CopyError} {new : Iteration R} {written : Writing W} (between : Iteration R)
      (so_far : Writing W)
      → CopiesItem reader sink old writer between so_far → Copies reader sink between so_far result new written
      → Copies reader sink old writer result new written
  ends : {old : Iteration R} {writer : Writing W} {result : Result Unit CopyError} {new : Iteration R} {written : Writing W}
      → result ≡ Ok tt → CopiesNone reader old writer new written → Copies reader sink old writer result new written
  stops_reading : {old : Iteration R} {writer : Writing W} {result : Result Unit CopyError} {new : Iteration R} {written : Writing W} (error : PropertiesError)
      → result ≡ Err (Read error) → FailsToRead reader old writer error new written → Copies reader sink old writer result new written
  stops_writing : {old : Iteration R} {writer : Writing W} {result : Result Unit CopyError} {new : Iteration R} {written : Writing W} (error : PropertiesError)
      → result ≡ Err (Write error) → FailsToWrite reader sink old writer error new written → Copies reader sink old writer result new written
