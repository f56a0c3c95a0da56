-- What readers and writers answer that have no number left for a line.
use Rattle.std.specs.Prelude.{◌≡◌, ℕ, ◌+◌, ◌^◌, true, false, Option, Some, Result, IsNone, IsErrAnd, IfErr}
use Rattle.counted_io.specs.Streams.{Sink}
use Rattle.properties_format.specs.ItemsToCome.{ReaderState}
use Rattle.properties_lines.specs.LineReader.{LineReading}
use Rattle.properties_lines.specs.declared.error.LineError.TheVariants as why
use Rattle.java_properties.specs.Errors.{IsBareError}
use Rattle.java_properties.specs.PropertiesWriter.{Writing, Flushes, FailsInFlush}
use Rattle.properties_items.specs.declared.error.ErrorKind.TheVariants.{TooManyLines}
use Rattle.properties_items.specs.declared.error.PropertiesError.{PropertiesError}

-- ---- readers

-- The reading goes on, and the number of one more line would be 2 ^ 64 - 1.
pub record HasOneLineLeft (s : ReaderState) : Type 0 where
  pub live : s.is_done ≡ false
  pub last : s.passed + 2 ≡ 2 ^ 64

-- The reading goes on, and the number of one more line would be 2 ^ 64.
pub record HasNoLineLeft (s : ReaderState) : Type 0 where
  pub live : s.is_done ≡ false
  pub last : s.passed + 1 ≡ 2 ^ 64

-- This is the last number, and in this state no line is left, unless the input ended.
pub record IsLastNumber (number : ℕ) (s : ReaderState) : Type 0 where
  pub last : number + 1 ≡ 2 ^ 64
  pub left : s.is_done ≡ false → HasNoLineLeft s

-- There is no line for want of a number. Nothing was read, and the reading ended permanently.
pub record StopsForNumber {R : Type 0} (from : R) (result : Option ℕ) (new : LineReading) (to : R) : Type 0 where
  pub none : IsNone result
  pub error : new.error ≡ Some why.TooManyLines
  pub done : new.state.is_done ≡ true
  pub untouched : to ≡ from

-- There is no line, and nothing was read or changed.
pub record FindsNothing {R : Type 0} (old : LineReading) (from : R) (result : Option ℕ) (new : LineReading) (to : R) : Type 0 where
  pub none : IsNone result
  pub same : new ≡ old
  pub untouched : to ≡ from

-- ---- writers

-- No write has failed, and the number of one more line would be 2 ^ 64.
pub record HasNoNumberLeft {W : Type 0} (w : Writing W) : Type 0 where
  pub live : w.failed ≡ false
  pub last : w.lines + 1 ≡ 2 ^ 64

-- A line was refused for want of a number, and nothing changed.
abbrev pub IsRefusedForNumber : {W : Type 0} → Writing W → Result Unit PropertiesError → Writing W → Type 0
IsRefusedForNumber old result new = IsErrAnd result (λ error. IsBareError TooManyLines error) × (new ≡ old)

-- The sink was flushed, or its flush failed.
pub record StillFlushes {W : Type 0} (sink : Sink W) (old : Writing W) (result : Result Unit PropertiesError) (new : Writing W) : Type 0 where
  pub flushes : Flushes sink old result new
  pub by_sink : IfErr result (λ error. FailsInFlush sink old error new)
