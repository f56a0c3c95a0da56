use Rattle.std.proofs.Common.{refl, inr}
use Rattle.properties_tools.proofs.propedit.print_answer.Goals as goal

pub returns-in-Ok-clause-prints : goal.returns-in-Ok-clause-prints
returns-in-Ok-clause-prints g c =
    let writes = rw c.deref.ensures.value at c.in-Ok.ensures.writes in
    (c.in_ok-answer.answer, record { answers = c.in_ok-answer.ensures; writes = writes }, refl, c.in_ok-hint.ensures)

pub returns-clause-prints : goal.returns-clause-prints
returns-clause-prints g c =
    let writes = rw c.deref.ensures.value at c.in-Err.ensures.writes in
    inr (record {
      answer = c.in_ok-answer.answer;
      error = c.in-Err.error;
      prints = record { answers = c.in_ok-answer.ensures; writes = writes };
      is = refl;
    })
