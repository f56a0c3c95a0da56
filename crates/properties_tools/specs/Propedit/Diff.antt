-- What `diff` gives for two sources, and what the program does for it.
use Rattle.std.specs.Prelude.{◌≡◌, ◌⊎◌, ℕ, List, Result, Ok, Err, map}
use Rattle.std.specs.List.{flat_map}
use Rattle.counted_io.specs.Streams.{Reader, Sink}
use Rattle.java_properties.specs.WholeSources.{GivesWhole, ReadsSource, WritesSource}
use Rattle.properties_format.specs.Encoding.{Encoding}
use Rattle.properties_items.specs.declared.error.PropertiesError.{PropertiesError}
use Rattle.properties_text.specs.Encoding.{encoding_of}
use Rattle.properties_tools.specs.Propedit.{source_name, EndsRun}
use Rattle.properties_tools.specs.Propedit.Hints.{NotesMisread}
use Rattle.properties_tools.specs.Propedit.Differences.{difference_lines, difference_status, AreDifferencesOf, Difference}
use Rattle.properties_tables.specs.Failures.{standard_output}
use Rattle.properties_tools.specs.Propedit.Json.{difference_value}
use Rattle.properties_checking.specs.JsonLines.{AreJsonLines, IsReportText}
use Rattle.properties_tables.specs.Sources.{IsSound, IsUnsound}
use Rattle.properties_tools.specs.declared.propedit.answer.Answer.{Answer}
use Rattle.properties_tools.specs.declared.propedit.diff.DiffFailure.{DiffFailure}
use Rattle.properties_tools.specs.declared.propedit.diff.DiffFailure.TheVariants.{Old, New, Output}
use Rattle.properties_tables.specs.declared.error.Failure.{Failure}
use Rattle.properties_tables.specs.declared.error.Failure.TheVariants as failure
use Rattle.properties_tools.specs.declared.propedit.request.Comparison.{Comparison}

-- ---- of two sources

-- Both sources are sound, and these are their differences, as text and status say.
pub record TellsDifferences (IsText : List Difference → List ℕ → Type 0) (e : Encoding) (old new : List ℕ) (answer : Answer) : Type 0 where
  pub old_sound : IsSound e old
  pub new_sound : IsSound e new
  pub differences : List Difference
  pub are : AreDifferencesOf e old new differences
  pub text : IsText differences answer.text.items
  pub status : answer.status ≡ difference_status differences

-- What comparing two sources returns: such an answer, or why there is none. The old one is refused first.
abbrev pub DiffsTo : (Answer → Type 0) → Encoding → List ℕ → List ℕ → Result Answer DiffFailure → Type 0
DiffsTo Tells e old new (Ok answer) = Tells answer
DiffsTo Tells e old new (Err (Old failure)) = IsUnsound e old failure
DiffsTo Tells e old new (Err (New failure)) = IsSound e old × IsUnsound e new failure
DiffsTo Tells e old new (Err (Output error)) = ⊥

-- an answer with this text
abbrev pub DiffsIn : (List Difference → List ℕ → Type 0) → Encoding → List ℕ → List ℕ → Result Answer DiffFailure → Type 0
DiffsIn IsText e old new result = DiffsTo (TellsDifferences IsText e old new) e old new result

-- The text has the lines of differences between sources of these names.
abbrev pub IsDifferenceText : List ℕ → List ℕ → List Difference → List ℕ → Type 0
IsDifferenceText old_name new_name ds text = text ≡ flat_map (difference_lines old_name new_name) ds

abbrev pub Diffs : List ℕ → List ℕ → Encoding → List ℕ → List ℕ → Result Answer DiffFailure → Type 0
Diffs old_name new_name e old new result = DiffsIn (IsDifferenceText old_name new_name) e old new result

-- The text has them as JSON.
abbrev pub AreObjects : List Difference → List ℕ → Type 0
AreObjects ds text = AreJsonLines (map difference_value ds) text

abbrev pub DiffsJson : Encoding → List ℕ → List ℕ → Result Answer DiffFailure → Type 0
DiffsJson e old new result = DiffsIn AreObjects e old new result

-- what comparing the two of a request returns, printed as it asks for
abbrev pub Compares : Comparison → List ℕ → List ℕ → Result Answer DiffFailure → Type 0
Compares sources old new result =
    DiffsIn (IsReportText sources.report (difference_lines (source_name sources.old) (source_name sources.new)) difference_value) (encoding_of sources.encoding)
    old new result

-- ---- over streams

-- What printing the differences of two sources returns: the status of the answer, or why nothing or not all was printed.
abbrev pub PrintsDiff : {W : Type 0} → Sink W → Comparison → List ℕ → List ℕ → W → Result ℕ DiffFailure → W → Type 0
PrintsDiff sink sources old new output (Ok status) output' =
    (answer : Answer) × Compares sources old new (Ok answer) × WritesSource sink output answer.text.items (Ok tt) output' × (status ≡ answer.status)
PrintsDiff sink sources old new output (Err (Output error)) output' =
    (answer : Answer) × Compares sources old new (Ok answer) × WritesSource sink output answer.text.items (Err error) output'
PrintsDiff sink sources old new output (Err why) output' = Compares sources old new (Err why) × (output' ≡ output)

-- The status is that of the answer, or of a failure, whose message names the source or the output.
abbrev pub EndsDiff : {E : Type 0} → Sink E → Comparison → E → Result ℕ DiffFailure → ℕ → E → Type 0
EndsDiff error_sink sources errors (Ok answer) status errors' = (status ≡ answer) × (errors' ≡ errors)
EndsDiff error_sink sources errors (Err (Old why)) status errors' = EndsRun error_sink (source_name sources.old) errors (Err why) status errors'
EndsDiff error_sink sources errors (Err (New why)) status errors' = EndsRun error_sink (source_name sources.new) errors (Err why) status errors'
EndsDiff error_sink sources errors (Err (Output error)) status errors' =
    EndsRun error_sink standard_output errors (Err (failure.Output error)) status errors'

module _ {R S W E : Type 0} (old_reader : Reader R) (new_reader : Reader S) (sink : Sink W) (error_sink : Sink E) (sources : Comparison) where
  -- Both sources were read to their ends, lines tell where Java reads each differently, and what differs was printed.
  pub record ComparesBoth (old : R) (new : S) (output : W) (errors : E) (status : ℕ) (old' : R) (new' : S) (output' : W) (errors' : E) : Type 0 where
    pub old_source : List ℕ
    pub new_source : List ℕ
    pub old_read : GivesWhole old_reader old old_source old'
    pub new_read : GivesWhole new_reader new new_source new'
    pub noted_old : E
    pub notes_old : NotesMisread error_sink sources.latin_1 (source_name sources.old) old_source errors noted_old
    pub noted : E
    pub notes : NotesMisread error_sink sources.latin_1 (source_name sources.new) new_source noted_old noted
    pub result : Result ℕ DiffFailure
    pub prints : PrintsDiff sink sources old_source new_source output result output'
    pub ends : EndsDiff error_sink sources noted result status errors'

  -- The old source couldn't be read to its end, nothing was read of the new one, and nothing was printed.
  pub record FailsInOld (old : R) (new : S) (output : W) (errors : E) (status : ℕ) (old' : R) (new' : S) (output' : W) (errors' : E) : Type 0 where
    pub error : PropertiesError
    pub fails : ReadsSource old_reader (encoding_of sources.encoding) old (Err error) old'
    pub unread : new' ≡ new
    pub unwritten : output' ≡ output
    pub ends : EndsDiff error_sink sources errors (Err (Old (failure.Input error))) status errors'

  -- The new source couldn't be read to its end, and nothing was printed.
  pub record FailsInNew (old : R) (new : S) (output : W) (errors : E) (status : ℕ) (old' : R) (new' : S) (output' : W) (errors' : E) : Type 0 where
    pub old_source : List ℕ
    pub old_read : GivesWhole old_reader old old_source old'
    pub error : PropertiesError
    pub fails : ReadsSource new_reader (encoding_of sources.encoding) new (Err error) new'
    pub unwritten : output' ≡ output
    pub ends : EndsDiff error_sink sources errors (Err (New (failure.Input error))) status errors'

  -- What the program does for two sources.
  abbrev pub RunsDiff : R → S → W → E → ℕ → R → S → W → E → Type 0
  RunsDiff old new output errors status old' new' output' errors' =
      ComparesBoth old new output errors status old' new' output' errors'
      ⊎ (FailsInOld old new output errors status old' new' output' errors' ⊎ FailsInNew old new output errors status old' new' output' errors')
