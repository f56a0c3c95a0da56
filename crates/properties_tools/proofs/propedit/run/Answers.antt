use Rattle.std.proofs.Common.{inl, refl}
use Rattle.std.specs.Prelude.{Ok}
use Rattle.properties_tools.proofs.propedit.run.Goals as goal

pub returns-in-Ok-print_answer-clause-runs : goal.returns-in-Ok-print_answer-clause-runs
returns-in-Ok-print_answer-clause-runs g c =
    let notes = rw (c.deref.ensures.value, c.name-name.ensures) at c.note_misread.ensures.prints in
    let prints = rw c.deref-2.ensures.value at c.in-Ok-print_answer.ensures.prints in
    inl (record {
      source = c.in-Ok.source.items;
      read = c.in-Ok.ensures.reads;
      noted = c.note_misread.new.errors;
      notes = notes;
      result = Ok (c.in-Ok-print_answer.status, c.in-Ok-print_answer.hint);
      prints = prints;
      ends = (refl, c.print_hint.ensures.prints);
    })
