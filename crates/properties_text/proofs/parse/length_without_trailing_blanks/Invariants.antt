use Rattle.std.proofs.Common.{◌≡◌, ◌≤◌, take, length}
use Rattle.properties_format.specs.Computed.Split.{without_trailing_blanks}
use Rattle.properties_text.proofs.parse.length_without_trailing_blanks.Given as goal

abbrev pub invariant-loop-end : goal.invariant-loop-end
invariant-loop-end l = record {
  within : l.end ≤ length l.text;
  front : without_trailing_blanks (take l.end l.text) ≡ without_trailing_blanks l.text;
}

abbrev pub decreases-loop-end : goal.decreases-loop-end
decreases-loop-end l = l.end
