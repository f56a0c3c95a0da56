-- The results of reading and of writing a whole source, and the reader or the sink afterwards.
use Rattle.std.specs.Prelude.{◌≡◌, ◌⊎◌, ℕ, true, List, [], ◌∷◌, ◌++◌, Option, Some, None, Result, Ok, Err}
use Rattle.std.specs.Global.{Vec}
use Rattle.std.specs.declared.io.Error.{Error}
use Rattle.counted_io.specs.Streams.{Reader, HasRead, HasFailed, Sink, HasWritten, HasSentPart, HasFailedFlush, has_ended}
use Rattle.properties_format.specs.Encoding.{Encoding}
use Rattle.properties_format.specs.Lines.{InputEnd, fault}
use Rattle.properties_format.specs.Escapes.{Malformed}
use Rattle.properties_format.specs.Items.{Entry, malformed, read_fault}
use Rattle.properties_format.specs.ItemsToCome.{start, PassesAll}
use Rattle.properties_items.specs.Errors.{cause_of_write, IsError, IsBareError, IsMalformed, IsStreamError}
use Rattle.java_properties.specs.ReadLines.{entries_in, IsReading, ReadsWhole, StopsReading}
use Rattle.properties_items.specs.declared.error.ErrorKind.TheVariants as kind
use Rattle.properties_items.specs.declared.error.PropertiesError.{PropertiesError}
use Rattle.properties_items.specs.declared.line.Line.{Line}

-- ---- reading

-- The reader was read to its end and gave these bytes.
pub record GivesWhole {R : Type 0} (reader : Reader R) (from : R) (bytes : List ℕ) (to : R) : Type 0 where
  pub read : HasRead reader from bytes to
  pub ended : has_ended reader to ≡ true

-- An escape of these bytes is malformed, in the logical line that begins in the line with this number. It and the items
-- before it are all items, whatever comes after these bytes.
pub record HasMalformedEscape (e : Encoding) (bytes : List ℕ) (error : PropertiesError) : Type 0 where
  pub lines : List Line
  pub number : ℕ
  pub how : Malformed
  pub is : IsMalformed how number error
  pub reading : (d : List ℕ) (ending : InputEnd) → IsReading e (bytes ++ d) ending (entries_in lines ++ malformed how number ∷ [])

-- There was no number for another line after those in these bytes. Their items begin with these, whatever comes after them.
pub record HasTooManyLines (e : Encoding) (bytes : List ℕ) (error : PropertiesError) : Type 0 where
  pub lines : List Line
  pub is : IsBareError kind.TooManyLines error
  pub passes : PassesAll (start e) bytes
  pub begins : (d : List ℕ) (ending : InputEnd) → (others : List Entry) × IsReading e (bytes ++ d) ending (entries_in lines ++ others)

-- A fault after these bytes cut the line with this number. No logical line that ends before it has a malformed escape:
-- these are the items.
pub record IsCutShort (e : Encoding) (bytes : List ℕ) (cause : Error) (error : PropertiesError) : Type 0 where
  pub lines : List Line
  pub number : ℕ
  pub is : IsStreamError (Some number) cause error
  pub reading : IsReading e bytes fault (entries_in lines ++ read_fault number ∷ [])

-- The error of a fault after these bytes: the one at which reading their items stops, or the reader's own without a line
-- if memory ran out for reading them.
abbrev pub IsErrorAtFault : Encoding → List ℕ → Error → PropertiesError → Type 0
IsErrorAtFault e bytes cause error =
    HasMalformedEscape e bytes error
    ⊎ (HasTooManyLines e bytes error ⊎ (IsCutShort e bytes cause error ⊎ IsStreamError None cause error))

-- These bytes were read, and then a read failed, by this error of the reader's own.
pub record FailsInRead {R : Type 0} (reader : Reader R) (e : Encoding) (from : R) (error : PropertiesError) (to : R) : Type 0 where
  pub bytes : List ℕ
  pub place : R
  pub read : HasRead reader from bytes place
  pub cause : Error
  pub failed : HasFailed reader place [] cause to
  pub is : IsErrorAtFault e bytes cause error

-- Memory for what was read ran out, and no read failed.
pub record LacksRoom {R : Type 0} (reader : Reader R) (from : R) (error : PropertiesError) (to : R) : Type 0 where
  pub bytes : List ℕ
  pub read : HasRead reader from bytes to
  pub is : IsBareError kind.Memory error

-- the result of reading a whole source
abbrev pub ReadsSource : {R : Type 0} → Reader R → Encoding → R → Result (Vec ℕ) PropertiesError → R → Type 0
ReadsSource reader e from (Ok source) to = GivesWhole reader from source.items to
ReadsSource reader e from (Err error) to = FailsInRead reader e from error to ⊎ LacksRoom reader from error to

-- the result of reading all items and dropping them
abbrev pub ReadsAllItems : {R : Type 0} → Reader R → Encoding → R → Result Unit PropertiesError → R → Type 0
ReadsAllItems reader e from (Ok done) to = (lines : List Line) × ReadsWhole reader e from (entries_in lines) to
ReadsAllItems reader e from (Err error) to = StopsReading reader e from error to

-- ---- writing

-- All bytes were written, and the sink is flushed.
pub record PutsWhole {W : Type 0} (sink : Sink W) (old : W) (bytes : List ℕ) (new : W) : Type 0 where
  pub written : HasWritten sink old bytes new
  pub flushed : sink.is_flushed new ≡ true

-- A write failed. The sink has a proper prefix of the bytes, and the error holds the sink's error.
pub record FailsInWrite {W : Type 0} (sink : Sink W) (old : W) (bytes : List ℕ) (error : PropertiesError) (new : W) : Type 0 where
  pub cause : Option Error
  pub sent : HasSentPart sink old bytes cause new
  pub is : IsError kind.Io None (cause_of_write cause) error

-- All bytes were written, but the flush failed. The error holds the sink's error.
pub record FailsInSourceFlush {W : Type 0} (sink : Sink W) (old : W) (bytes : List ℕ) (error : PropertiesError) (new : W) : Type 0 where
  pub middle : W
  pub written : HasWritten sink old bytes middle
  pub cause : Error
  pub flushed : HasFailedFlush sink middle cause new
  pub is : IsStreamError None cause error

-- the result of writing a whole source
abbrev pub WritesSource : {W : Type 0} → Sink W → W → List ℕ → Result Unit PropertiesError → W → Type 0
WritesSource sink old bytes (Ok done) new = PutsWhole sink old bytes new
WritesSource sink old bytes (Err error) new = FailsInWrite sink old bytes error new ⊎ FailsInSourceFlush sink old bytes error new
