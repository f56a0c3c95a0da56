use Rattle.properties_editing.proofs.BodyViews.{flaw-found, part-whole}
use Rattle.properties_editing.proofs.walk.part_flaw.Goals as goal

pub returns-in_err-at : goal.returns-in_err-at
returns-in_err-at c =
    let found = rw (c.as_bytes.ensures.value, c.cut.ensures) at c.in_err-at.ensures in
    rw c.from_residual.ensures (part-whole _ found.0 found.1)

pub returns : goal.returns
returns c =
    let found = rw (c.as_bytes.ensures.value, c.cut.ensures) at c.in_ok-at.ensures in
    flaw-found c.args.line.now c.args.part c.in_ok-at.at c.in_ok-at.how c.utf8.line c.requires found
