use Rattle.std.proofs.Common.{◌≡◌, ◌-◌, length}
use Rattle.properties_text.specs.PrintedTexts.{IsRunPut, bytes_of}
use Rattle.properties_text.proofs.print.runs.put_run.Given as goal

abbrev pub invariant-loop-put : goal.invariant-loop-put
invariant-loop-put g l = record {
  same : length l.out ≡ length l.fn.out;
  run : IsRunPut g.Stops.ByteClass.holds l.fn.out l.at (bytes_of l.part) l.from l.put l.out;
}

abbrev pub decreases-loop-put : goal.decreases-loop-put
decreases-loop-put g l = l.part.size - l.put.read

abbrev pub invariant-loop-put-2 : goal.invariant-loop-put-2
invariant-loop-put-2 g l = record {
  same : length l.out ≡ length l.fn.out;
  run : IsRunPut g.Stops.ByteClass.holds l.fn.out l.at (bytes_of l.part) l.from l.put l.out;
}

abbrev pub decreases-loop-put-2 : goal.decreases-loop-put-2
decreases-loop-put-2 g l = l.part.size - l.put.read
