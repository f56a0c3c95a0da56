-- What the program does for a base, over any streams.
use Rattle.std.specs.Prelude.{◌≡◌, ◌⊎◌, ℕ, List, Result, Ok, Err}
use Rattle.counted_io.specs.Streams.{Reader, Sink}
use Rattle.java_properties.specs.WholeSources.{GivesWhole, ReadsSource, WritesSource}
use Rattle.properties_items.specs.declared.error.PropertiesError.{PropertiesError}
use Rattle.properties_text.specs.Encoding.{encoding_of}
use Rattle.properties_tools.specs.Propedit.{source_name, ChecksBase, EndsRun}
use Rattle.properties_tools.specs.Propedit.Against.{KnownBase}
use Rattle.properties_tools.specs.declared.propedit.answer.Answer.{Answer}
use Rattle.properties_tables.specs.declared.error.Failure.{Failure}
use Rattle.properties_tables.specs.declared.error.Failure.TheVariants.{Input, Output}
use Rattle.properties_tools.specs.declared.propedit.request.CheckedBase.{CheckedBase}

module _ {R W : Type 0} (reader : Reader R) (sink : Sink W) (asked : CheckedBase) where
  -- What the base gave to its end is checked so.
  abbrev pub ChecksAsked : List ℕ → Result (Answer × KnownBase) Failure → Type 0
  ChecksAsked source result = ChecksBase (source_name asked.source) (encoding_of asked.encoding) asked.check source result

  -- What it gave to its end was checked, and printing what is wrong returned this.
  pub record PrintsChecked (input : R) (output : W) (answer : Answer) (base : KnownBase) (printed : Result Unit PropertiesError) (input' : R) (output' : W)
      : Type 0 where
    pub source : List ℕ
    pub read : GivesWhole reader input source input'
    pub checks : ChecksAsked source (Ok (answer, base))
    pub writes : WritesSource sink output answer.text.items printed output'

  -- It couldn't be read to its end, and nothing was printed.
  pub record FailsInBase (input : R) (output : W) (why : Failure) (input' : R) (output' : W) : Type 0 where
    pub error : PropertiesError
    pub fails : ReadsSource reader (encoding_of asked.encoding) input (Err error) input'
    pub is : why ≡ Input error
    pub unwritten : output' ≡ output

  -- What it gave to its end wasn't checked, and nothing was printed.
  pub record IsUnchecked (input : R) (output : W) (why : Failure) (input' : R) (output' : W) : Type 0 where
    pub source : List ℕ
    pub read : GivesWhole reader input source input'
    pub fails : ChecksAsked source (Err why)
    pub unwritten : output' ≡ output

  -- Printing what is wrong failed.
  pub record FailsInReport (input : R) (output : W) (why : Failure) (input' : R) (output' : W) : Type 0 where
    pub answer : Answer
    pub base : KnownBase
    pub error : PropertiesError
    pub prints : PrintsChecked input output answer base (Err error) input' output'
    pub is : why ≡ Output error

  -- What printing what is wrong returns: the status and the base, or why it failed.
  abbrev pub PrintsBase : R → W → Result (ℕ × KnownBase) Failure → R → W → Type 0
  PrintsBase input output (Ok checked) input' output' =
      (answer : Answer) × PrintsChecked input output answer checked.1 (Ok tt) input' output' × (checked.0 ≡ answer.status)
  PrintsBase input output (Err why) input' output' =
      FailsInBase input output why input' output' ⊎ (IsUnchecked input output why input' output' ⊎ FailsInReport input output why input' output')

-- What the program does for a base: it reads it and prints what is wrong. At a failure the status is that of the failure,
-- whose message names the base or the output.
abbrev pub RunsBase : {R W E : Type 0} → Reader R → Sink W → Sink E → CheckedBase → R → W → E → Result (ℕ × KnownBase) ℕ → R → W → E → Type 0
RunsBase reader sink error_sink asked input output errors (Ok checked) input' output' errors' =
    PrintsBase reader sink asked input output (Ok checked) input' output' × (errors' ≡ errors)
RunsBase reader sink error_sink asked input output errors (Err status) input' output' errors' =
    (why : Failure) × PrintsBase reader sink asked input output (Err why) input' output'
    × EndsRun error_sink (source_name asked.source) errors (Err why) status errors'
