use Rattle.std.proofs.Common.{refl}
use Rattle.single_lines.proofs.JoinedRuns.{joins_all}
use Rattle.single_lines.proofs.logical.LogicalLines.new.Goals as goal

pub returns-clause-joins : goal.returns-clause-joins
returns-clause-joins g c = joins_all g.I.Iterator.next_gives _ refl
