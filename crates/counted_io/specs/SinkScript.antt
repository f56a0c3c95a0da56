-- What a contract sees of a `ScriptedSink`.
use Rattle.std.specs.Prelude.{◌≡◌, ℕ, ◌<◌, ◌==◌, min, max, Bool, false, List, length, Option, None, Some, Result, Ok, MatchOption, MatchResult, IsOk}
use Rattle.std.specs.Bool.{MatchBool}
use Rattle.std.specs.IoError.{error_kind}
use Rattle.std.specs.declared.io.Error.{Error}
use Rattle.std.specs.declared.io.ErrorKind.{ErrorKind}
use Rattle.std.specs.declared.io.ErrorKind.TheVariants.{OutOfMemory}
use Rattle.counted_io.specs.Faults.{one_more, FailsWith}
use Rattle.counted_io.specs.declared.scripted_sink.SinkFault.{SinkFault}
use Rattle.counted_io.specs.declared.scripted_sink.SinkFault.TheVariants as sink_fault
use Rattle.counted_io.specs.declared.scripted_sink.ScriptedSink.{ScriptedSink}

-- what a sink does
pub record SinkPlan : Type 0 where
  pub most : ℕ
  pub fail_at : Option ℕ
  pub how : SinkFault
  pub flush_fault : Option ErrorKind

abbrev pub sink_plan : ScriptedSink → SinkPlan
sink_plan s = record { most = s.most; fail_at = s.fail_at; how = s.how; flush_fault = s.flush_fault }

-- the bytes that it took
abbrev pub sink_bytes : ScriptedSink → List ℕ
sink_bytes s = s.taken.items

-- its write calls so far, up to `usize::MAX`
abbrev pub sink_calls : ScriptedSink → ℕ
sink_calls s = s.calls

-- its faults so far
abbrev pub sink_faults : ScriptedSink → ℕ
sink_faults s = s.faults

-- whether it is flushed
abbrev pub sink_flushed : ScriptedSink → Bool
sink_flushed s = s.flushed

-- whether the write after so many is the one that fails
abbrev pub fails_after : Option ℕ → ℕ → Bool
fails_after None calls = false
fails_after (Some number) calls = number == one_more calls

-- how the write that fails answers
abbrev pub FailsAs : SinkFault → Result ℕ Error → Type 0
FailsAs (sink_fault.Fault kind) r = FailsWith kind r
FailsAs sink_fault.Nothing r = r ≡ Ok 0

-- Another write takes as many bytes as it may, which is at least one. Only a refused growth is a fault, and none is
-- asked for where there are no bytes.
abbrev pub TakesMost : ℕ → List ℕ → Result ℕ Error → Type 0
TakesMost most bytes r =
    MatchResult r (λ n. n ≡ min (length bytes) (max most 1)) (λ e. (error_kind e ≡ OutOfMemory) × (0 < length bytes))

-- how the write after so many answers
abbrev pub WriteAnswers : SinkPlan → ℕ → List ℕ → Result ℕ Error → Type 0
WriteAnswers plan calls bytes r = MatchBool (fails_after plan.fail_at calls) (FailsAs plan.how r) (TakesMost plan.most bytes r)

-- how a flush answers
abbrev pub FlushAnswers : {T : Type 0} → Option ErrorKind → Result T Error → Type 0
FlushAnswers fault r = MatchOption fault (IsOk r) (λ kind. FailsWith kind r)

-- what a write of these bytes into one sink gives, and the sink after it
abbrev pub ScriptWrites : ScriptedSink → List ℕ → Result ℕ Error → ScriptedSink → Type 0
ScriptWrites before bytes r after =
    WriteAnswers (sink_plan before) (sink_calls before) bytes r
    × (sink_plan after ≡ sink_plan before) × (sink_calls after ≡ one_more (sink_calls before))

-- what a flush of one sink gives, and the sink after it
abbrev pub ScriptFlushes : ScriptedSink → Result Unit Error → ScriptedSink → Type 0
ScriptFlushes before r after =
    FlushAnswers (sink_plan before).flush_fault r
    × (sink_plan after ≡ sink_plan before) × (sink_calls after ≡ sink_calls before)
