use Rattle.std.proofs.Common.{ap, arith, length, sym}
use Rattle.properties_editing.proofs.OpenViews.{view-taken}
use Rattle.properties_editing.proofs.view.View.next.Goals as goal

pub returns-clause-gives : goal.returns-clause-gives
returns-clause-gives c =
    let takes = rw c.in-Some.is at c.in_ok-group.ensures in
    rw (sym c.self.view_is)
    (view-taken c.self.inside.walk c.next.new.self c.self.inside.group c.in-Some.group c.line_count.result c.self.invariant takes c.line_count.ensures).1

pub returns-clause-nearer : goal.returns-clause-nearer
returns-clause-nearer c =
    let takes = rw c.in-Some.is at c.in_ok-group.ensures in
    let next = (view-taken c.self.inside.walk c.next.new.self c.self.inside.group c.in-Some.group c.line_count.result c.self.invariant takes c.line_count.ensures).1 in
    let size = ap length next.takes in
    rw (sym c.self.view_is) (omega arith)
