use Rattle.std.proofs.Common.{◌≡◌, ◌≤◌, true}
use Rattle.std.specs.Iterator.{size, IsFinite}
use Rattle.std.specs.Str.{chars}
use Rattle.std.specs.String.{string_bytes}
use Rattle.single_lines.proofs.Joining.{JoinsSoFar}
use Rattle.single_lines.proofs.logical.LogicalLines.join.Given as goal

abbrev pub invariant-loop-line : goal.invariant-loop-line
invariant-loop-line g l = record {
  done : l.self.is_done ≡ true;
  can : g.I.Iterator.can_next l.self.lines;
  finite : IsFinite (g.I.Iterator.remaining l.self.lines);
  fewer : size (g.I.Iterator.remaining l.self.lines) ≤ size (g.I.Iterator.remaining l.fn.self.lines);
  joins : JoinsSoFar g.I.Iterator.next_gives l.fn.self.lines l.fn.first (chars (string_bytes l.text)) l.self.lines;
}

abbrev pub decreases-loop-line : goal.decreases-loop-line
decreases-loop-line g l = size (g.I.Iterator.remaining l.self.lines)
