use Rattle.std.proofs.Common.{◌≡◌, ◌≤◌, ◌-◌, length, drop}
use Rattle.properties_format.specs.Text.{without_leading_blanks}
use Rattle.properties_text.proofs.parse.past_few_blanks.Given as goal

abbrev pub invariant-loop-at : goal.invariant-loop-at
invariant-loop-at l = record {
  within : l.at ≤ length l.text;
  rest : without_leading_blanks (drop l.at l.text) ≡ without_leading_blanks (drop l.from l.text);
  after : l.from ≤ l.at;
}

abbrev pub decreases-loop-at : goal.decreases-loop-at
decreases-loop-at l = length l.text - l.at
