use Rattle.std.proofs.Common.{refl}
use Rattle.properties_tools.proofs.propedit.diff.print_diff.Goals as goal

pub returns-in-Ok-clause-prints : goal.returns-in-Ok-clause-prints
returns-in-Ok-clause-prints g c =
    let writes = rw c.deref.ensures.value at c.in-Ok.ensures.writes in
    (c.in_ok-answer.answer, c.in_ok-answer.ensures, writes, refl)

pub returns-clause-prints : goal.returns-clause-prints
returns-clause-prints g c =
    let writes = rw c.deref.ensures.value at c.in-Err.ensures.writes in
    (c.in_ok-answer.answer, c.in_ok-answer.ensures, writes)
