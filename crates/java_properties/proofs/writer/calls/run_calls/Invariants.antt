use Rattle.std.proofs.Common.{◌≡◌, ◌≤◌, length, take, vec_len, vec_capacity}
use Rattle.counted_io.specs.Streams.{sink, IsSameSink}
use Rattle.properties_format.specs.Writing.{answers}
use Rattle.java_properties.specs.Calls.{calls_in, HasMade, LeavesFailed}
use Rattle.java_properties.proofs.writer.calls.run_calls.Given as goal

abbrev pub invariant-loop-call : goal.invariant-loop-call
invariant-loop-call g l = record {
  made : HasMade (sink g.W.Write g.W.CountedWrite) l.fn.writer (take l.call-index (calls_in l.calls)) l.writer;
  answered : l.answers.items ≡ answers l.fn.writer.settings (take l.call-index (calls_in l.calls));
  count : vec_len l.answers ≡ l.call-index;
  room : length l.calls ≤ vec_capacity l.answers;
  untouched : LeavesFailed l.fn.writer l.writer;
  same_sink : IsSameSink (sink g.W.Write g.W.CountedWrite) l.fn.writer.sink l.writer.sink;
}
