use Rattle.std.proofs.Common.{sym}
use Rattle.properties_editing.proofs.OpenViews.{flaw-seen, none-flawed}
use Rattle.properties_editing.proofs.view.View.flaw.Goals as goal

pub returns-in-Some-2 : goal.returns-in-Some-2
returns-in-Some-2 c =
    let viewed = rw c.in-Some.is at c.self.invariant.has_group in
    let flawed = rw c.in-Some-2.is at c.in_ok-found.ensures in
    rw (sym c.self.view_is, c.in-Some.is)
    (flaw-seen c.in-Some-2.found c.malformed_kind.result viewed flawed c.malformed_kind.ensures)

pub returns-in-None : goal.returns-in-None
returns-in-None c =
    let none = rw c.in-None.is at c.in_ok-found.ensures in
    rw (sym c.self.view_is, c.in-Some.is) (none-flawed c.self.inside.walk c.in-Some.group none)
