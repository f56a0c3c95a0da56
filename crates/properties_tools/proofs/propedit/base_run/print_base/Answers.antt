use Rattle.std.proofs.Common.{refl, inr, rules}
use Rattle.properties_tools.proofs.propedit.base_run.print_base.Goals as goal

pub returns-in-Ok-clause-prints : goal.returns-in-Ok-clause-prints
returns-in-Ok-clause-prints g c =
    let checks = rw (c.name-name.ensures, c.deref.ensures.value) at c.in_ok-answer.ensures in
    let writes = rw c.deref-2.ensures.value at c.in-Ok.ensures.writes in (
      c.in_ok-answer.answer,
      record { source = c.in_ok-source.source.items; read = search rules; checks = checks; writes = writes },
      refl,
    )

pub returns-clause-prints : goal.returns-clause-prints
returns-clause-prints g c =
    let checks = rw (c.name-name.ensures, c.deref.ensures.value) at c.in_ok-answer.ensures in
    let writes = rw c.deref-2.ensures.value at c.in-Err.ensures.writes in
    inr (inr (record {
      answer = c.in_ok-answer.answer;
      base = c.in_ok-answer.base;
      error = c.in-Err.error;
      prints = record { source = c.in_ok-source.source.items; read = search rules; checks = checks; writes = writes };
      is = refl;
    }))
