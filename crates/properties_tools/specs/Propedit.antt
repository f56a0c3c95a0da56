-- What `propedit` does, over any streams: what a command gives for a source, a text to print and the exit status or why
-- it fails, and the effects of that.
pub mod Against
pub mod BaseRun
pub mod Comment
pub mod Diff
pub mod Differences
pub mod Get
pub mod Hints
pub mod Json
pub mod Listing
pub mod Merge
pub mod Texts
use Rattle.std.specs.Prelude.{◌≡◌, ℕ, Bool, true, false, List, [], ◌∷◌, Result, Ok, Err, codes, map, string_bytes, ◌⊎◌, Option}
use Rattle.std.specs.Option.{option_map}
use Rattle.properties_format.specs.Encoding.{Encoding}
use Rattle.properties_text.specs.Encoding.{encoding_of}
use Rattle.java_properties.specs.Maps.{characters}
use Rattle.properties_tools.specs.Propedit.Against.{IsBaseOf, IsReportAgainst, KnownBase}
use Rattle.properties_changing.specs.Change.{Changes}
use Rattle.properties_checking.specs.Check.{IsReport}
use Rattle.properties_tools.specs.Propedit.Comment.{ShowsComment}
use Rattle.properties_tables.specs.Failures.{IsMemoryFailure, failure_status, standard_output, Reports}
use Rattle.properties_tools.specs.Propedit.Get.{Gets}
use Rattle.properties_tools.specs.Propedit.Hints.{hint_bytes, IsHint, NotesMisread, PrintsHint}
use Rattle.properties_tools.specs.Propedit.Json.{ListsJson}
use Rattle.properties_tools.specs.Propedit.Listing.{Lists, ListsValues}
use Rattle.properties_tools.specs.declared.propedit.answer.Answer.{Answer}
use Rattle.properties_checking.specs.declared.request.Check.{Check as AskedCheck}
use Rattle.properties_tools.specs.declared.propedit.request.Command.{Command}
use Rattle.properties_changing.specs.declared.request.Change.{Change as AskedChange}
use Rattle.properties_tools.specs.declared.propedit.request.Command.TheVariants as command
use Rattle.properties_tools.specs.declared.propedit.request.Source.{Source}
use Rattle.properties_tools.specs.declared.propedit.request.Source.TheVariants.{StandardInput, Dash, File}
use Rattle.properties_tools.specs.declared.propedit.request.Job.{Job}
use Rattle.properties_tables.specs.declared.error.Failure.{Failure}
use Rattle.std.specs.Global.{Global}
use Rattle.std.specs.declared.string.String.{String}
use Rattle.counted_io.specs.Streams.{Reader, Sink}
use Rattle.java_properties.specs.WholeSources.{GivesWhole, ReadsSource, WritesSource}
use Rattle.properties_items.specs.declared.error.PropertiesError.{PropertiesError}
use Rattle.properties_tables.specs.declared.error.Failure.TheVariants.{Input, Output}

-- the name of a source in messages
abbrev pub source_name : Source → List ℕ
source_name StandardInput = codes "standard input"
source_name Dash = codes "standard input"
source_name (File path) = string_bytes path

-- The status of a report: 0 where it is empty.
abbrev pub report_status : List ℕ → ℕ
report_status [] = 0
report_status (byte ∷ bytes) = 1

-- What is printed of a report: all of it, or nothing if the check is quiet.
abbrev pub printed_report : Bool → List ℕ → List ℕ
printed_report true report = []
printed_report false report = report

-- The source was checked: the status is that of its report, which is printed unless the check is quiet.
pub record ChecksSource (name : List ℕ) (e : Encoding) (check : AskedCheck) (source : List ℕ) (answer : Answer) : Type 0 where
  pub report : List ℕ
  pub is_report : IsReport name e check source report
  pub text : answer.text.items ≡ printed_report check.quiet report
  pub status : answer.status ≡ report_status report

-- What checking gives; or memory ran out.
abbrev pub AnswersCheck : List ℕ → Encoding → AskedCheck → List ℕ → Result Answer Failure → Type 0
AnswersCheck name e check source (Ok answer) = ChecksSource name e check source answer
AnswersCheck name e check source (Err failure) = IsMemoryFailure failure

-- What checking a base returns: what is wrong in it, and what is kept of it. Otherwise memory ran out.
abbrev pub ChecksBase : List ℕ → Encoding → AskedCheck → List ℕ → Result (Answer × KnownBase) Failure → Type 0
ChecksBase name e check source (Ok checked) = ChecksSource name e check source checked.0 × IsBaseOf name e source checked.1
ChecksBase name e check source (Err failure) = IsMemoryFailure failure

-- The source was checked and compared: the status is that of the report, which is printed unless the check is quiet.
pub record ChecksSourceAgainst (base : KnownBase) (name : List ℕ) (e : Encoding) (check : AskedCheck) (source : List ℕ) (answer : Answer) : Type 0 where
  pub report : List ℕ
  pub is_report : IsReportAgainst base name e check source report
  pub text : answer.text.items ≡ printed_report check.quiet report
  pub status : answer.status ≡ report_status report

-- What checking a source against a base returns. It fails only if memory runs out.
abbrev pub ChecksAgainst : KnownBase → List ℕ → Encoding → AskedCheck → List ℕ → Result Answer Failure → Type 0
ChecksAgainst base name e check source (Ok answer) = ChecksSourceAgainst base name e check source answer
ChecksAgainst base name e check source (Err failure) = IsMemoryFailure failure

-- What a change gives as an answer: the bytes after it, and the status 0.
abbrev pub ChangesTo : Encoding → List ℕ → AskedChange → Result Answer Failure → Type 0
ChangesTo e source change (Ok answer) = Changes e source change (Ok answer.text) × (answer.status ≡ 0)
ChangesTo e source change (Err failure) = Changes e source change (Err failure)

-- What a command gives for a source of this name in this encoding.
abbrev pub AnswersCommand : List ℕ → Encoding → Command → List ℕ → Result Answer Failure → Type 0
AnswersCommand name e (command.Get keys default end) source result = Gets e source (map characters keys.items) (option_map characters default) end result
AnswersCommand name e (command.List prefix end) source result = Lists e source (characters prefix) end result
AnswersCommand name e (command.ListValues prefix end) source result = ListsValues e source (characters prefix) end result
AnswersCommand name e (command.ListJson prefix) source result = ListsJson e source (characters prefix) result
AnswersCommand name e (command.Comment key) source result = ShowsComment e source (characters key) result
AnswersCommand name e (command.Check check) source result = AnswersCheck name e check source result
AnswersCommand name e (command.CheckAgainst check base) source result = ChecksAgainst base name e check source result
AnswersCommand name e (command.Change change) source result = ChangesTo e source change result

-- What the command of some job gives for its source.
abbrev pub Answers : Job → List ℕ → Result Answer Failure → Type 0
Answers job source result = AnswersCommand (source_name job.source) (encoding_of job.encoding) job.command source result

-- ---- how it ends

-- The status is that of the result, and nothing is printed; or it is that of the failure, whose message is printed,
-- but for an output that nobody reads any more.
abbrev pub EndsRun : {E : Type 0} → Sink E → List ℕ → E → Result ℕ Failure → ℕ → E → Type 0
EndsRun error_sink name errors (Ok answer) status errors' = (status ≡ answer) × (errors' ≡ errors)
EndsRun error_sink name errors (Err failure) status errors' = (status ≡ failure_status failure) × Reports error_sink errors name failure errors'

-- ---- a command

-- The source was answered, and printing the answer returned this.
pub record PrintsAnswer {W : Type 0} (sink : Sink W) (job : Job) (source : List ℕ) (output : W) (answer : Answer)
    (printed : Result Unit PropertiesError) (output' : W) : Type 0 where
  pub answers : Answers job source (Ok answer)
  pub writes : WritesSource sink output answer.text.items printed output'

-- The source has no answer, and nothing was printed.
pub record HasNoAnswer {W : Type 0} (job : Job) (source : List ℕ) (output : W) (failure : Failure) (output' : W) : Type 0 where
  pub fails : Answers job source (Err failure)
  pub unwritten : output' ≡ output

-- Printing the answer failed.
pub record FailsInOutput {W : Type 0} (sink : Sink W) (job : Job) (source : List ℕ) (output : W) (failure : Failure) (output' : W) : Type 0 where
  pub answer : Answer
  pub error : PropertiesError
  pub prints : PrintsAnswer sink job source output answer (Err error) output'
  pub is : failure ≡ Output error

-- What printing the answer to a command returns: the answer's status and the hint on it, if any; or why it failed.
abbrev pub PrintsResult : {W : Type 0} → Sink W → Job → List (List ℕ) → List ℕ → W → Result (ℕ × Option (String Global)) Failure → W → Type 0
PrintsResult sink job files source output (Ok said) output' =
    (answer : Answer) × PrintsAnswer sink job source output answer (Ok tt) output' × (said.0 ≡ answer.status)
    × IsHint job files source answer.status (hint_bytes said.1)
PrintsResult sink job files source output (Err failure) output' =
    HasNoAnswer job source output failure output' ⊎ FailsInOutput sink job source output failure output'

-- The status is that of the answer, and the hint on it is printed, if there is one; or it ends as at any failure.
abbrev pub EndsSaying : {E : Type 0} → Sink E → List ℕ → E → Result (ℕ × Option (String Global)) Failure → ℕ → E → Type 0
EndsSaying error_sink name errors (Ok said) status errors' = (status ≡ said.0) × PrintsHint error_sink errors (hint_bytes said.1) errors'
EndsSaying error_sink name errors (Err failure) status errors' = EndsRun error_sink name errors (Err failure) status errors'

module _ {R W E : Type 0} (reader : Reader R) (sink : Sink W) (error_sink : Sink E) (job : Job) where
  -- The source was read to its end, a line tells where Java reads it differently, and the answer was printed. These
  -- files are there.
  pub record RunsOnSource (files : List (List ℕ)) (input : R) (output : W) (errors : E) (status : ℕ) (input' : R) (output' : W) (errors' : E) : Type 0 where
    pub source : List ℕ
    pub read : GivesWhole reader input source input'
    pub noted : E
    pub notes : NotesMisread error_sink job.latin_1 (source_name job.source) source errors noted
    pub result : Result (ℕ × Option (String Global)) Failure
    pub prints : PrintsResult sink job files source output result output'
    pub ends : EndsSaying error_sink (source_name job.source) noted result status errors'

  -- The source couldn't be read to its end, and nothing was printed. The error is that of a failed read, as reading a
  -- whole source gives it, or Memory where no read failed.
  pub record FailsInSource (input : R) (output : W) (errors : E) (status : ℕ) (input' : R) (output' : W) (errors' : E) : Type 0 where
    pub error : PropertiesError
    pub fails : ReadsSource reader (encoding_of job.encoding) input (Err error) input'
    pub unwritten : output' ≡ output
    pub ends : EndsRun error_sink (source_name job.source) errors (Err (Input error)) status errors'

  -- What the program does for a command.
  abbrev pub Runs : List (List ℕ) → R → W → E → ℕ → R → W → E → Type 0
  Runs files input output errors status input' output' errors' =
      RunsOnSource files input output errors status input' output' errors' ⊎ FailsInSource input output errors status input' output' errors'

-- ---- a text

-- the result of printing a text
abbrev pub printed_status : Result Unit PropertiesError → Result ℕ Failure
printed_status (Ok done) = Ok 0
printed_status (Err error) = Err (Output error)

-- What the program does with a text: it prints it, and ends so.
pub record PrintsText {W E : Type 0} (sink : Sink W) (error_sink : Sink E) (text : List ℕ) (output : W) (errors : E) (status : ℕ) (output' : W) (errors' : E) : Type 0 where
  pub result : Result Unit PropertiesError
  pub writes : WritesSource sink output text result output'
  pub ends : EndsRun error_sink standard_output errors (printed_status result) status errors'
