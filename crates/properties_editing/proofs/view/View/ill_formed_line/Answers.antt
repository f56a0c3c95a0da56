use Rattle.std.proofs.Common.{sym}
use Rattle.properties_editing.proofs.OpenViews.{ill-formed}
use Rattle.properties_editing.proofs.view.View.ill_formed_line.Goals as goal

pub returns : goal.returns
returns c =
    let viewed = rw c.in-Some.is at c.self.invariant.has_group in
    rw (sym c.self.view_is, c.in-Some.is) (ill-formed c.in_ok-number.number viewed c.in_ok-number.ensures)
