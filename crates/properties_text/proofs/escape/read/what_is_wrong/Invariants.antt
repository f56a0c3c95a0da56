use Rattle.std.proofs.Common.{◌≡◌, ◌+◌, ◌-◌, ◌≤◌, length}
use Rattle.properties_text.specs.Escaping.{IsWell, text_in}
use Rattle.properties_text.proofs.escape.read.what_is_wrong.Given as goal

-- So many characters were counted.
abbrev pub invariant-loop-count : goal.invariant-loop-count
invariant-loop-count l = record {
  well : IsWell l.encoding l.rest;
  few : l.count ≤ 4;
  counted : length (text_in l.encoding l.text) ≡ l.count + length (text_in l.encoding l.rest);
}

abbrev pub decreases-loop-count : goal.decreases-loop-count
decreases-loop-count l = 4 - l.count
