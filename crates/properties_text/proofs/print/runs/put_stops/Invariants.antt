use Rattle.std.proofs.Common.{◌≡◌, ◌-◌, ◌≤◌, length, take}
use Rattle.properties_format.specs.Text.{backslash}
use Rattle.properties_text.specs.PrintedTexts.{ArePut, from_on}
use Rattle.properties_text.proofs.print.runs.put_stops.Given as goal

abbrev pub invariant-loop-put : goal.invariant-loop-put
invariant-loop-put g l = record {
  same : length l.out ≡ length l.fn.out;
  front : take l.fn.start.end l.out ≡ take l.fn.start.end l.fn.out;
  room : l.fn.start.end ≤ l.put.end;
  onwards : l.fn.start.read ≤ l.put.read;
  start : l.put.read ≡ l.fn.start.read → l.put.end ≡ l.fn.start.end;
  put : ArePut l.encoding l.repertoire (g.Stops.ByteClass.holds backslash) (from_on l.encoding l.repertoire (g.Stops.ByteClass.holds backslash) l.fn.out l.fn.start.end
      l.text l.fn.start.read) l.text l.put l.out;
}

abbrev pub decreases-loop-put : goal.decreases-loop-put
decreases-loop-put g l = length l.text - l.put.read
