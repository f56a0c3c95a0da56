use Rattle.std.proofs.Common.{sym}
use Rattle.properties_editing.proofs.OpenViews.{places-seen, places-ordered}
use Rattle.properties_editing.proofs.view.View.places.Goals as goal

pub returns-clause-places : goal.returns-clause-places
returns-clause-places c =
    let viewed = rw c.in-Some.is at c.self.invariant.has_group in
    rw (sym c.self.view_is, c.in-Some.is, c.in_ok-places.ensures) (places-seen viewed)

pub returns-clause-ordered : goal.returns-clause-ordered
returns-clause-ordered c =
    let viewed = rw c.in-Some.is at c.self.invariant.has_group in
    rw (sym c.self.view_is, c.in-Some.is, c.in_ok-places.ensures) (places-ordered viewed)
