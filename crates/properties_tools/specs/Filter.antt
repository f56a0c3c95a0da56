-- What `filter` does: it reads the items of an input, and writes each pair as one line.
use Rattle.std.specs.Prelude.{◌≡◌, ◌⊎◌, ◌+◌, ◌^◌, ◌==◌, ℕ, Bool, true, false, List, [], ◌∷◌, ◌++◌, length, Option, Some, Result, Ok, Err}
use Rattle.std.specs.declared.io.Error.{Error}
use Rattle.counted_io.specs.Streams.{Reader, HasRead, Sink, HasWritten, HasFaulted, HasFailedFlush, IsProperPrefix, CameFromWrite, has_ended}
use Rattle.properties_format.specs.Encoding.{Encoding, output_encoding}
use Rattle.properties_format.specs.Items.{pair, Entry, item, AreItems, IsItems}
use Rattle.properties_format.specs.Printing.{printed}
use Rattle.properties_format.specs.Settings.{Settings, default_settings}
use Rattle.properties_format.specs.Lines.{end}
use Rattle.properties_format.specs.Writing.{Call, wrote, pairs_in, calls_of, items_after, ArePairsOfScalars}
use Rattle.properties_format.specs.AsciiOnly.{AreAsciiBytes, AreItemsInBoth}
use Rattle.java_properties.specs.ReadBack.{TakesAscii}
use Rattle.java_properties.specs.Errors.{cause_of_write, IsError, IsBareError}
use Rattle.java_properties.specs.PropertiesWriter.{Writing, new_writer, with_settings}
use Rattle.java_properties.specs.ReadLines.{BeginsWith, ReadsWhole, ReadsUpTo}
use Rattle.java_properties.specs.WholeSources.{FailsInSourceFlush}
use Rattle.properties_items.specs.declared.error.ErrorKind.TheVariants as kind
use Rattle.properties_items.specs.declared.error.PropertiesError.{PropertiesError}

-- ---- pairs and their lines

-- the calls that write the pairs among some entries
abbrev pub pair_calls : List Entry → List Call
pair_calls entries = calls_of (pairs_in entries)

-- how many pairs are among them
abbrev pub pair_count : List Entry → ℕ
pair_count entries = length (pair_calls entries)

-- the settings of a new writer, with ASCII-only output on or off
abbrev pub settings_with : Bool → Settings
settings_with only = record default_settings { ascii_only = only }

-- the encoding that an input is read in, and whether the output is ASCII-only
pub record Form : Type 0 where
  pub encoding : Encoding
  pub ascii_only : Bool

abbrev pub form : Encoding → Bool → Form
form e only = record { encoding = e; ascii_only = only }

-- the writer of the pairs of an input, before the first
abbrev pub pair_writer : {W : Type 0} → Form → W → Writing W
pair_writer r sink = with_settings (new_writer (output_encoding r.encoding) sink) (settings_with r.ascii_only)

-- the lines of these pairs, as that writer prints them
abbrev pub pair_lines : Form → List Entry → List ℕ
pair_lines r entries = wrote (output_encoding r.encoding) (settings_with r.ascii_only) 0 (pair_calls entries)

-- the line of a pair after these
abbrev pub next_pair_line : Form → List Entry → List ℕ → List ℕ → List ℕ
next_pair_line r entries key value = printed (output_encoding r.encoding) (settings_with r.ascii_only) (pair_count entries == 0) (pair key value)

-- ---- what was written

-- The bytes were taken, and then the sink was flushed, or its flush failed.
abbrev pub TakesAndFlushes : {W : Type 0} → Sink W → W → List ℕ → W → Type 0
TakesAndFlushes {W} sink old bytes new =
    (HasWritten sink old bytes new × (sink.is_flushed new ≡ true))
    ⊎ ((middle : W) × HasWritten sink old bytes middle × ((source : Error) × HasFailedFlush sink middle source new))

-- The pairs of these items were written, and a proper prefix of the line of this pair. Then a write failed, and the error has the number of that line and what the sink said.
pub record FailsInPair {W : Type 0} (sink : Sink W) (r : Form) (old : W) (items : List Entry) (key value : List ℕ) (error : PropertiesError) (new : W) : Type 0 where
  pub part : List ℕ
  pub begins : IsProperPrefix part (next_pair_line r items key value)
  pub faulted : HasFaulted sink old (pair_lines r items ++ part) new
  pub cause : Option Error
  pub given : CameFromWrite sink cause new
  pub is : IsError kind.Io (Some (pair_count items + 1)) (cause_of_write cause) error

-- The pairs of these items were written, but not this one, for which memory ran out or the numbers for lines.
pub record RefusesPair {W : Type 0} (sink : Sink W) (r : Form) (old : W) (items : List Entry) (error : PropertiesError) (new : W) : Type 0 where
  pub written : HasWritten sink old (pair_lines r items) new
  pub is : IsBareError kind.Memory error ⊎ IsBareError kind.TooManyLines error × (pair_count items + 1 ≡ 2 ^ 64)

-- ---- how it ends

-- The input was read to its end, its pairs were written, and the sink was flushed. Their texts are of scalar values.
pub record HasFiltered {R W : Type 0} (reader : Reader R) (sink : Sink W) (r : Form) (input : R) (output : W) (input' : R) (output' : W) : Type 0 where
  pub items : List Entry
  pub whole : AreItems items
  pub scalars : ArePairsOfScalars (pairs_in items)
  pub reads : ReadsWhole reader r.encoding input items input'
  pub written : HasWritten sink output (pair_lines r items) output'
  pub flushed : sink.is_flushed output' ≡ true

-- Reading stopped after these items: at malformed escapes, at a fault, or since memory ran out or the numbers for lines. Their pairs were written, and the sink was flushed, or its flush failed.
pub record StopsInReading {R W : Type 0} (reader : Reader R) (sink : Sink W) (r : Form) (input : R) (output : W)
    (items : List Entry) (error : PropertiesError) (input' : R) (output' : W) : Type 0 where
  pub whole : AreItems items
  pub stops : ReadsUpTo reader r.encoding input items error input'
  pub written : TakesAndFlushes sink output (pair_lines r items) output'

-- Writing stopped at a pair, which comes after these items.
pub record StopsInWriting {R W : Type 0} (reader : Reader R) (sink : Sink W) (r : Form) (input : R) (output : W)
    (items : List Entry) (error : PropertiesError) (input' : R) (output' : W) : Type 0 where
  pub number : ℕ
  pub key : List ℕ
  pub value : List ℕ
  pub whole : AreItems items
  pub bytes : List ℕ
  pub read : HasRead reader input bytes input'
  pub begins : BeginsWith (IsItems r.encoding) bytes (items ++ (item number (pair key value) ∷ [])) (has_ended reader input')
  pub fails : FailsInPair sink r output items key value error output' ⊎ RefusesPair sink r output items error output'

-- The input was read to its end, these are its items, and their pairs were written, but the flush failed.
pub record StopsInFlush {R W : Type 0} (reader : Reader R) (sink : Sink W) (r : Form) (input : R) (output : W)
    (items : List Entry) (error : PropertiesError) (input' : R) (output' : W) : Type 0 where
  pub whole : AreItems items
  pub reads : ReadsWhole reader r.encoding input items input'
  pub fails : FailsInSourceFlush sink output (pair_lines r items) error output'

-- Filtering stopped after these items of the input, of whose pairs the texts are of scalar values.
pub record StopsAfter {R W : Type 0} (reader : Reader R) (sink : Sink W) (r : Form) (input : R) (output : W)
    (items : List Entry) (error : PropertiesError) (input' : R) (output' : W) : Type 0 where
  pub scalars : ArePairsOfScalars (pairs_in items)
  pub stops : StopsInReading reader sink r input output items error input' output'
      ⊎ (StopsInWriting reader sink r input output items error input' output' ⊎ StopsInFlush reader sink r input output items error input' output')

-- What filtering an input to an output does.
abbrev pub Filters : {R W : Type 0} → Reader R → Sink W → Form → R → W → Result Unit PropertiesError → R → W → Type 0
Filters reader sink r input output (Ok done) input' output' = HasFiltered reader sink r input output input' output'
Filters reader sink r input output (Err error) input' output' = (items : List Entry) × StopsAfter reader sink r input output items error input' output'

-- ---- filtering twice

-- The sink took bytes that are read, by themselves and in the output encoding, as the pairs of the input, one a line and
-- under its number, and as nothing else. The lines of these pairs, which filtering the bytes writes, are the same bytes.
pub record HasSettled {R W : Type 0} (reader : Reader R) (sink : Sink W) (e : Encoding) (input : R) (output : W) (input' : R) (output' : W) : Type 0 where
  pub items : List Entry
  pub reads : ReadsWhole reader e input items input'
  pub bytes : List ℕ
  pub written : HasWritten sink output bytes output'
  pub back : IsItems (output_encoding e) bytes end (items_after 0 (pairs_in items))
  pub only : (others : List Entry) → IsItems (output_encoding e) bytes end others → others ≡ items_after 0 (pairs_in items)
  pub same : pair_lines (form (output_encoding e) false) (items_after 0 (pairs_in items)) ≡ bytes

-- of the line of a pair after these, at most a part: nothing, or a proper prefix
abbrev pub IsPartOfNext : Encoding → List Entry → List ℕ → Type 0
IsPartOfNext e items part = (part ≡ []) ⊎ ((key : List ℕ) × (value : List ℕ) × IsProperPrefix part (next_pair_line (form e false) items key value))

-- The sink took the lines of the pairs among these items, and then at most a part of one line more. A write or a flush may have failed.
pub record TakesLines {W : Type 0} (sink : Sink W) (e : Encoding) (items : List Entry) (old new : W) : Type 0 where
  pub part : List ℕ
  pub begins : IsPartOfNext e items part
  pub taken : HasWritten sink old (pair_lines (form e false) items ++ part) new ⊎ HasFaulted sink old (pair_lines (form e false) items ++ part) new

-- Filtering stopped after these items, and the sink took the lines of their pairs. The lines are read, by themselves and in
-- the output encoding, as these pairs, one a line and under its number, and as nothing else. To filter them writes the same
-- bytes.
pub record HasSettledBefore {R W : Type 0} (reader : Reader R) (sink : Sink W) (e : Encoding) (input : R) (output : W) (error : PropertiesError) (input' : R) (output' : W) : Type 0 where
  pub items : List Entry
  pub stops : StopsAfter reader sink (form e false) input output items error input' output'
  pub takes : TakesLines sink e items output output'
  pub back : IsItems (output_encoding e) (pair_lines (form e false) items) end (items_after 0 (pairs_in items))
  pub only : (others : List Entry) → IsItems (output_encoding e) (pair_lines (form e false) items) end others → others ≡ items_after 0 (pairs_in items)
  pub same : pair_lines (form (output_encoding e) false) (items_after 0 (pairs_in items)) ≡ pair_lines (form e false) items

-- What filtering says about filtering its output again.
abbrev pub Settles : {R W : Type 0} → Reader R → Sink W → Encoding → R → W → Result Unit PropertiesError → R → W → Type 0
Settles reader sink e input output (Ok done) input' output' = HasSettled reader sink e input output input' output'
Settles reader sink e input output (Err error) input' output' = HasSettledBefore reader sink e input output error input' output'

-- ---- with ASCII-only output on

-- The sink took ASCII-only bytes, which have the same items in windows-1252 and in UTF-8: the pairs of the input, one a
-- line and under its number.
pub record HasFilteredAscii {R W : Type 0} (reader : Reader R) (sink : Sink W) (e : Encoding) (input : R) (output : W) (input' : R) (output' : W) : Type 0 where
  pub items : List Entry
  pub reads : ReadsWhole reader e input items input'
  pub bytes : List ℕ
  pub written : HasWritten sink output bytes output'
  pub ascii : AreAsciiBytes bytes
  pub in_both : AreItemsInBoth bytes (items_after 0 (pairs_in items))

-- What filtering says of ASCII where it is on. At an error, too, the sink took ASCII only.
abbrev pub FiltersToAscii : {R W : Type 0} → Reader R → Sink W → Encoding → R → W → Result Unit PropertiesError → R → W → Type 0
FiltersToAscii reader sink e input output (Ok done) input' output' = HasFilteredAscii reader sink e input output input' output'
FiltersToAscii reader sink e input output (Err error) input' output' = TakesAscii sink output output'
