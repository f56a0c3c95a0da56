-- What `merge` sets: the pairs of a file, which is a properties file, or has texts that each end with a zero byte.
use Rattle.std.specs.Prelude.{◌≡◌, ◌≢◌, ◌⊎◌, ℕ, Bool, false, ◌==◌, All, List, [], ◌∷◌, ◌++◌, None, Result, Ok, Err, map}
use Rattle.std.specs.Global.{Vec}
use Rattle.std.specs.List.{flat_map, list_any}
use Rattle.std.specs.Str.{chars, IsUtf8}
use Rattle.counted_io.specs.Streams.{Reader, Sink}
use Rattle.properties_format.specs.Edits.{set_value, Edit}
use Rattle.properties_format.specs.Encoding.{Encoding}
use Rattle.java_properties.specs.Editing.{edits_in}
use Rattle.java_properties.specs.WholeSources.{GivesWhole, ReadsSource}
use Rattle.properties_editing.specs.declared.edit.Edit as editor
use Rattle.properties_items.specs.declared.error.PropertiesError.{PropertiesError}
use Rattle.properties_text.specs.Encoding.{encoding_of}
use Rattle.properties_text.specs.declared.encoding.Encoding.{Encoding as Asked}
use Rattle.properties_tools.specs.Propedit.{source_name, EndsRun}
use Rattle.properties_tables.specs.Failures.{IsMemoryFailure}
use Rattle.properties_tables.specs.Sources.{IsSound, IsUnsound}
use Rattle.properties_tables.specs.Table.{HasRows, Row}
use Rattle.properties_tables.specs.declared.error.Failure.{Failure}
use Rattle.properties_tables.specs.declared.error.Failure.TheVariants.{Input, Texts}
use Rattle.properties_tables.specs.declared.error.TextFlaw.{TextFlaw}
use Rattle.properties_tables.specs.declared.error.TextFlaw.TheVariants as flaw
use Rattle.properties_tools.specs.declared.propedit.merge.Merged.{Merged}
use Rattle.properties_tools.specs.declared.propedit.merge.Merged.TheVariants as outcome
use Rattle.properties_changing.specs.declared.request.Change.{Change}
use Rattle.properties_changing.specs.declared.request.Change.TheVariants as change
use Rattle.properties_tools.specs.declared.propedit.request.Command.TheVariants as command
use Rattle.properties_tools.specs.declared.propedit.request.Destination.{Destination}
use Rattle.properties_tools.specs.declared.propedit.request.Destination.TheVariants as destination
use Rattle.properties_changing.specs.declared.request.Edits.{Edits}
use Rattle.properties_tools.specs.declared.propedit.request.Form.{Form}
use Rattle.properties_tools.specs.declared.propedit.request.Form.TheVariants as form
use Rattle.properties_tools.specs.declared.propedit.request.Merge.{Merge}

-- ---- a properties file

abbrev pub set_of : Row → Edit
set_of r = set_value r.key r.value

-- The file is sound, and each of its keys is set to its last value, in the order of their first pairs.
pub record AreOfRows (e : Encoding) (file : List ℕ) (edits : List Edit) : Type 0 where
  pub sound : IsSound e file
  pub rows : List Row
  pub have : HasRows e file rows
  pub are : edits ≡ map set_of rows

abbrev pub SetsRows : Encoding → List ℕ → Result (Vec editor.Edit) Failure → Type 0
SetsRows e file (Ok edits) = AreOfRows e file (edits_in edits.items)
SetsRows e file (Err failure) = IsUnsound e file failure

-- ---- texts

-- A text and the zero byte after it. No other byte of it is zero.
abbrev pub zero_ended : List ℕ → List ℕ
zero_ended text = text ++ 0 ∷ []

abbrev pub is_zero : ℕ → Bool
is_zero byte = byte == 0

abbrev pub HasNoZero : List ℕ → Type 0
HasNoZero text = list_any is_zero text ≡ false

-- a key and a value, in UTF-8
pub record TextPair : Type 0 where
  pub key : List ℕ
  pub value : List ℕ
  pub key_whole : HasNoZero key
  pub value_whole : HasNoZero value

-- what `list -v -z` prints of pairs
abbrev pub text_bytes : List TextPair → List ℕ
text_bytes pairs = flat_map (λ p. zero_ended p.key ++ zero_ended p.value) pairs

abbrev pub set_of_texts : TextPair → Edit
set_of_texts p = set_value (chars p.key) (chars p.value)

-- These pairs are the file, and each is set, in order.
pub record AreOfTexts (file : List ℕ) (edits : List Edit) : Type 0 where
  pub utf8 : IsUtf8 file
  pub pairs : List TextPair
  pub division : file ≡ text_bytes pairs
  pub are : edits ≡ map set_of_texts pairs

-- After the last text comes no zero byte.
pub record IsNotEnded (file : List ℕ) : Type 0 where
  pub utf8 : IsUtf8 file
  pub before : List ℕ
  pub last : List ℕ
  pub division : file ≡ before ++ last
  pub some : last ≢ []
  pub whole : HasNoZero last

-- The last key has no value.
pub record HasNoValue (file : List ℕ) : Type 0 where
  pub utf8 : IsUtf8 file
  pub pairs : List TextPair
  pub key : List ℕ
  pub division : file ≡ text_bytes pairs ++ zero_ended key
  pub whole : HasNoZero key

abbrev pub HasTextFlaw : List ℕ → TextFlaw → Type 0
HasTextFlaw file flaw.NotUtf8 = ¬ IsUtf8 file
HasTextFlaw file flaw.NotEnded = IsNotEnded file
HasTextFlaw file flaw.NoValue = HasNoValue file

-- Why no texts are set: they have a flaw, or memory ran out.
abbrev pub AreNoTexts : List ℕ → Failure → Type 0
AreNoTexts file (Texts flaw) = HasTextFlaw file flaw
AreNoTexts file other = IsMemoryFailure other

abbrev pub SetsTexts : List ℕ → Result (Vec editor.Edit) Failure → Type 0
SetsTexts file (Ok edits) = AreOfTexts file (edits_in edits.items)
SetsTexts file (Err failure) = AreNoTexts file failure

-- ---- either of them

abbrev pub SetsAll : Form → Encoding → List ℕ → Result (Vec editor.Edit) Failure → Type 0
SetsAll form.Properties e file result = SetsRows e file result
SetsAll form.Texts e file result = SetsTexts file result

-- ---- the change of a merge

-- these edits, made as it is asked for
abbrev pub change_by : Edits → Vec editor.Edit → Change
change_by asked list = change.Edits (record { list = list; ascii_only = asked.ascii_only; latin_1 = asked.latin_1; absent = asked.absent })

-- a change that goes there
abbrev pub sent_to : Destination → Asked → Bool → Change → Merged
sent_to (destination.Printed source) e latin_1 change = outcome.Printed (record { encoding = e; latin_1 = latin_1; source = source; command = command.Change change; note = None })
sent_to (destination.InPlace path missing verbose) e latin_1 change =
    outcome.InPlace (record { path = path; encoding = e; change = change; missing = missing; verbose = verbose })

-- what a merge comes to, where these edits set its pairs
abbrev pub merged : Merge → Vec editor.Edit → Merged
merged asked list = sent_to asked.destination asked.encoding asked.edits.latin_1 (change_by asked.edits list)

-- ---- over streams

module _ {R : Type 0} (reader : Reader R) (asked : Merge) where
  -- What the file of pairs gave to its end sets these edits, or has this flaw.
  pub record SetsWhole (pairs : R) (result : Result (Vec editor.Edit) Failure) (pairs' : R) : Type 0 where
    pub file : List ℕ
    pub read : GivesWhole reader pairs file pairs'
    pub sets : SetsAll asked.form (encoding_of asked.encoding) file result

  -- It couldn't be read to its end.
  pub record FailsInPairs (pairs : R) (why : Failure) (pairs' : R) : Type 0 where
    pub error : PropertiesError
    pub fails : ReadsSource reader (encoding_of asked.encoding) pairs (Err error) pairs'
    pub is : why ≡ Input error

  -- What reading the pairs returns: the edits that set them, or why there are none.
  abbrev pub ReadsPairs : R → Result (Vec editor.Edit) Failure → R → Type 0
  ReadsPairs pairs (Ok edits) pairs' = SetsWhole pairs (Ok edits) pairs'
  ReadsPairs pairs (Err why) pairs' = FailsInPairs pairs why pairs' ⊎ SetsWhole pairs (Err why) pairs'

-- What reading a merge returns: the change by the edits that set its pairs, with nothing printed; or the status at a
-- failure, whose message names the source of the pairs.
abbrev pub ReadsMerge : {R E : Type 0} → Reader R → Sink E → Merge → R → E → Result Merged ℕ → R → E → Type 0
ReadsMerge reader error_sink asked pairs errors (Ok change) pairs' errors' =
    (edits : Vec editor.Edit) × ReadsPairs reader asked pairs (Ok edits) pairs' × (change ≡ merged asked edits) × (errors' ≡ errors)
ReadsMerge reader error_sink asked pairs errors (Err status) pairs' errors' =
    (why : Failure) × ReadsPairs reader asked pairs (Err why) pairs' × EndsRun error_sink (source_name asked.pairs) errors (Err why) status errors'
