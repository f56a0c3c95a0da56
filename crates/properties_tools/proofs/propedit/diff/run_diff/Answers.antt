use Rattle.std.proofs.Common.{inl, inr, refl}
use Rattle.std.specs.Prelude.{Ok}
use Rattle.properties_tools.proofs.propedit.diff.run_diff.Goals as goal

pub returns-in-Err-clause-runs : goal.returns-in-Err-clause-runs
returns-in-Err-clause-runs g c =
    let ends = rw c.name-old_name.ensures at c.exit_status.ensures.ends in
    inr (inl (record { error = c.in-Err.error; fails = c.in-Err.ensures.reads; unread = refl; unwritten = refl; ends = ends }))

pub returns-in-Err-read_source-clause-runs : goal.returns-in-Err-read_source-clause-runs
returns-in-Err-read_source-clause-runs g c =
    let ends = rw c.name-new_name.ensures at c.exit_status-in-Err-read_source.ensures.ends in
    inr (inr (record {
      old_source = c.in-Ok.bytes.items;
      old_read = c.in-Ok.ensures.reads;
      error = c.in-Err-read_source.error;
      fails = c.in-Err-read_source.ensures.reads;
      unwritten = refl;
      ends = ends;
    }))

pub returns-in-Ok-print_diff-clause-runs : goal.returns-in-Ok-print_diff-clause-runs
returns-in-Ok-print_diff-clause-runs g c =
    let old_notes = rw (c.deref.ensures.value, c.name-old_name.ensures) at c.note_misread.ensures.prints in
    let notes = rw (c.deref-2.ensures.value, c.name-new_name.ensures) at c.note_misread-2.ensures.prints in
    let prints = rw (c.deref-3.ensures.value, c.deref-4.ensures.value) at c.in-Ok-print_diff.ensures.prints in
    inl (record {
      old_source = c.in-Ok.bytes.items;
      new_source = c.in-Ok-read_source.bytes.items;
      old_read = c.in-Ok.ensures.reads;
      new_read = c.in-Ok-read_source.ensures.reads;
      noted_old = c.note_misread.new.errors;
      notes_old = old_notes;
      noted = c.note_misread-2.new.errors;
      notes = notes;
      result = Ok c.in-Ok-print_diff.status;
      prints = prints;
      ends = (refl, refl);
    })
