use Rattle.std.proofs.Common.{◌≡◌, ◌-◌, ◌≤◌, take, length}
use Rattle.properties_format.specs.Text.{backslash}
use Rattle.properties_text.specs.PrintedTexts.{ArePut, from_on}
use Rattle.properties_text.proofs.print.runs.print_rest.Given as goal

abbrev pub invariant-loop-put : goal.invariant-loop-put
invariant-loop-put g l = record {
  front : take l.at l.out.items ≡ take l.at l.fn.out.items;
  room : l.at ≤ l.put.end;
  longer : length l.fn.out.items ≤ length l.out.items;
  put : ArePut l.encoding l.repertoire (g.Stops.ByteClass.holds backslash) (from_on l.encoding l.repertoire (g.Stops.ByteClass.holds backslash) l.fn.out.items
      l.at (take l.size l.bytes) l.from) (take l.size l.bytes) l.put l.out.items;
}

abbrev pub decreases-loop-put : goal.decreases-loop-put
decreases-loop-put g l = l.size - l.put.read
