-- Lists of a writer's calls, and the effect of making them.
use Rattle.std.specs.Prelude.{◌≡◌, ◌⊎◌, Bool, true, false, if◌then◌else◌, List, [], ◌∷◌, ◌++◌, map, Result, Ok, Err, is_some, string_bytes, vec_items}
use Rattle.std.specs.Global.{Vec}
use Rattle.std.specs.Str.{chars}
use Rattle.counted_io.specs.Streams.{Sink, HasWritten}
use Rattle.properties_format.specs.Settings.{Settings}
use Rattle.properties_format.specs.Items.{comment, pair}
use Rattle.properties_format.specs.Writing as format
use Rattle.properties_items.specs.Errors.{kind_of, Refuses}
use Rattle.properties_items.specs.Line.{ending_of}
use Rattle.java_properties.specs.PropertiesWriter.{Writing, WritesLine, Flushes}
use Rattle.properties_items.specs.declared.error.ErrorKind.{ErrorKind}
use Rattle.properties_items.specs.declared.error.ErrorKind.TheVariants as kind
use Rattle.properties_items.specs.declared.error.PropertiesError.{PropertiesError}
use Rattle.java_properties.specs.declared.writer.calls.Call.{Call}
use Rattle.java_properties.specs.declared.writer.calls.Call.TheVariants.{Comment, Pair, Prefix, Separator, Ending, Flush, AsciiOnly, Readable}

abbrev pub call_in : Call → format.Call
call_in (Comment text) = format.comment_call (chars (string_bytes text))
call_in (Pair key value) = format.pair_call (chars (string_bytes key)) (chars (string_bytes value))
call_in (Prefix prefix) = format.prefix_call (chars (string_bytes prefix))
call_in (Separator separator) = format.separator_call (chars (string_bytes separator))
call_in (Ending line_ending) = format.ending_call (ending_of line_ending)
call_in Flush = format.flush_call
call_in (AsciiOnly on) = format.ascii_only_call on
call_in (Readable on) = format.readable_call on

abbrev pub calls_in : List Call → List format.Call
calls_in calls = map call_in calls

-- Both are the same call, with the same texts.
abbrev pub IsSameCall : Call → Call → Type 0
IsSameCall (Comment x) (Comment y) = string_bytes x ≡ string_bytes y
IsSameCall (Pair k v) (Pair l w) = (string_bytes k ≡ string_bytes l) × (string_bytes v ≡ string_bytes w)
IsSameCall (Prefix x) (Prefix y) = string_bytes x ≡ string_bytes y
IsSameCall (Separator x) (Separator y) = string_bytes x ≡ string_bytes y
IsSameCall (Ending x) (Ending y) = x ≡ y
IsSameCall Flush Flush = Unit {0}
IsSameCall (AsciiOnly on) (AsciiOnly other) = on ≡ other
IsSameCall (Readable on) (Readable other) = on ≡ other
IsSameCall call other = ⊥

-- ---- calls that were made

-- the writer after the calls, with this sink, if none of them failed
abbrev pub after_calls : {W : Type 0} → Writing W → List format.Call → W → Writing W
after_calls w calls sink = record w {
  sink = sink;
  settings = format.settings_after w.settings calls;
  lines = format.line_count_after w.settings w.lines calls;
}

-- whether the sink is flushed after the calls: by a flush after all their lines, or before them if they write no line
abbrev pub flushed_after : Settings → Bool → List format.Call → Bool
flushed_after s flushed [] = flushed
flushed_after s flushed (format.flush_call ∷ calls) = flushed_after s true calls
flushed_after s flushed (call ∷ calls) =
    flushed_after (format.settings_after_call s call) (if is_some (format.written_line s call) then false else flushed) calls

-- when a call can be made: a line or a flush only if no write failed before, a setting always
abbrev pub MayMake : Bool → format.Call → Type 0
MayMake failed (format.comment_call text) = failed ≡ false
MayMake failed (format.pair_call key value) = failed ≡ false
MayMake failed format.flush_call = failed ≡ false
MayMake failed setting = Unit {0}

abbrev pub MayMakeAll : Bool → List format.Call → Type 0
MayMakeAll failed [] = Unit {0}
MayMakeAll failed (call ∷ calls) = MayMake failed call × MayMakeAll failed calls

-- The calls were made, and none failed. If a write failed before, no line or flush is among them. The sink has what
-- they write, and it is flushed if they flush it after their last line.
pub record HasMade {W : Type 0} (sink : Sink W) (old : Writing W) (calls : List format.Call) (new : Writing W) : Type 0 where
  pub live : MayMakeAll old.failed calls
  pub written : HasWritten sink old.sink (format.wrote old.encoding old.settings old.lines calls) new.sink
  pub flushed : flushed_after old.settings false calls ≡ true → sink.is_flushed new.sink ≡ true
  pub after : new ≡ after_calls old calls new.sink

-- ---- one call

-- the kinds of error that mean that a call was not accepted
abbrev pub is_not_accepted : ErrorKind → Bool
is_not_accepted kind.BadCommentPrefix = true
is_not_accepted kind.BadKvSeparator = true
is_not_accepted kind.EmptyKey = true
is_not_accepted other = false

-- From the result of a call: whether it was accepted, or the error that ends the run.
abbrev pub IsAcceptedResult : Result Unit PropertiesError → Result Bool PropertiesError → Type 0
IsAcceptedResult (Ok done) result = result ≡ Ok true
IsAcceptedResult (Err error) result = result ≡ (if is_not_accepted (kind_of error) then Ok false else Err error)

-- The call was made, and the answer says whether it was accepted. A call that writes no line and is no flush leaves the
-- sink unchanged.
pub record HasMadeCall {W : Type 0} (sink : Sink W) (old : Writing W) (call : format.Call) (accepted : Bool) (new : Writing W) : Type 0 where
  pub answer : accepted ≡ format.is_accepted old.settings call
  pub made : HasMade sink old (call ∷ []) new
  pub quiet : is_some (format.written_line old.settings call) ≡ false → (call ≡ format.flush_call → ⊥) → new.sink ≡ old.sink

-- how a call fails: a setter only if memory runs out
abbrev pub Fails : {W : Type 0} → Sink W → Writing W → format.Call → PropertiesError → Writing W → Type 0
Fails sink old (format.comment_call text) error new = WritesLine sink old (comment text) (Err error) new
Fails sink old (format.pair_call key value) error new = WritesLine sink old (pair key value) (Err error) new
Fails sink old (format.prefix_call prefix) error new = Refuses kind.Memory old error new
Fails sink old (format.separator_call separator) error new = Refuses kind.Memory old error new
Fails sink old format.flush_call error new = Flushes sink old (Err error) new
Fails sink old other error new = ⊥

-- The call failed with an error other than those that mean that it was not accepted.
pub record FailsInCall {W : Type 0} (sink : Sink W) (old : Writing W) (call : format.Call) (error : PropertiesError) (new : Writing W) : Type 0 where
  pub fails : Fails sink old call error new
  pub final : is_not_accepted (kind_of error) ≡ false

abbrev pub MakesCall : {W : Type 0} → Sink W → Writing W → format.Call → Result Bool PropertiesError → Writing W → Type 0
MakesCall sink old call (Ok accepted) new = HasMadeCall sink old call accepted new
MakesCall sink old call (Err error) new = FailsInCall sink old call error new

-- ---- all calls

-- All calls were made, and there is an answer for each that says whether it was accepted.
pub record HasRun {W : Type 0} (sink : Sink W) (old : Writing W) (calls : List format.Call) (answers : List Bool) (new : Writing W) : Type 0 where
  pub answered : answers ≡ format.answers old.settings calls
  pub made : HasMade sink old calls new

-- A call failed, and the calls before it were made.
pub record StopsAtCall {W : Type 0} (sink : Sink W) (old : Writing W) (calls : List format.Call) (error : PropertiesError) (new : Writing W) : Type 0 where
  pub before : List format.Call
  pub call : format.Call
  pub others : List format.Call
  pub division : calls ≡ before ++ (call ∷ others)
  pub middle : Writing W
  pub made : HasMade sink old before middle
  pub fails : FailsInCall sink middle call error new

-- The effect of running calls. If memory for the answers runs out, none is made.
abbrev pub RunsCalls : {W : Type 0} → Sink W → Writing W → List format.Call → Result (Vec Bool) PropertiesError → Writing W → Type 0
RunsCalls sink old calls (Ok answers) new = HasRun sink old calls (vec_items answers) new
RunsCalls sink old calls (Err error) new = Refuses kind.Memory old error new ⊎ StopsAtCall sink old calls error new

-- If a write failed before, the sink is unchanged.
abbrev pub LeavesFailed : {W : Type 0} → Writing W → Writing W → Type 0
LeavesFailed old new = old.failed ≡ true → new.sink ≡ old.sink
