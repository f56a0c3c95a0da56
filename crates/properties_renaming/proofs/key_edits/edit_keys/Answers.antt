use Rattle.std.proofs.Common.{◌<◌, ◌≤◌, Ok, Err, arith, drop, length, subst, sym, take}
use Rattle.std.proofs.lemmas.List.{length-drop, length-map, length-take-le, take-map}
use Rattle.std.proofs.lemmas.Result.{err_from_is_err_and}
use Rattle.properties_renaming.specs.KeyEdits.{MakesKeyEdits, MakesRun, key_edit_in, key_edits_in}
use Rattle.properties_renaming.specs.Private.KeyEdits.{HasRunSize, IsIndexBelow, RunsOrFails}
use Rattle.properties_renaming.proofs.RunsInTurn.{fails-first, fails-later, made-all, made-first, made-more, rest-of, run-of, run-within, size-within}
use Rattle.properties_renaming.proofs.key_edits.edit_keys.Goals as goal
use Rattle.properties_renaming.proofs.RunsInTurn.{AreMadeTo}

pub returns-in_err-bytes : goal.returns-in_err-bytes
returns-in_err-bytes c =
    let edits = c.args.edits.now in
    let size = c.run_size-done.result in
    let error = c.in_err-bytes.field-0.0 in
    let fails = subst (λ run. RunsOrFails c.args.options c.args.source.now run (Err error)) (sym (take-map key_edit_in size edits)) c.in_err-bytes.ensures in
    let same = err_from_is_err_and c.from_residual.result c.from_residual.ensures.1 in
    rw (same.1, same.2) (fails-first c.args.options c.args.source.now (key_edits_in edits) size error c.run_size-done.ensures fails)

pub loop-done-init : goal.loop-done-init
loop-done-init c =
    let edits = c.args.edits.now in
    let size = c.run_size-done.result in
    let made = subst (λ run. MakesRun c.args.options c.args.source.now run (Ok c.in_ok-bytes.bytes)) (sym (take-map key_edit_in size edits)) c.in_ok-bytes.ensures in
    made-first c.args.options c.args.source.now (key_edits_in edits) size c.in_ok-bytes.bytes c.run_size-done.ensures made

pub error_after-requires : goal.error_after-requires
error_after-requires c =
    let edits = c.args.edits.now in
    let all = key_edits_in edits in
    let done = c.loop-done.done in
    let size = c.run_size-size.result in
    let run = take size (drop done all) in
    let below : done < length edits = omega arith in
    let count = length-map edits key_edit_in in
    let long = length-drop done all in
    let front = subst (λ es. HasRunSize es size) (rest-of key_edit_in edits done) c.run_size-size.ensures in
    let within = size-within (drop done all) size (omega (arith, count, long)) front in
    let most = within.1 in
    let fails = subst (λ es. RunsOrFails c.args.options c.deref.result.now es (Err c.in-Err.error)) (run-of key_edit_in edits done size) c.in-Err.ensures in
    let index = subst (λ n. IsIndexBelow n c.in-Err.error) (length-take-le size (drop done all) most)
    (run-within c.args.options c.deref.result.now run c.in-Err.error fails) in
    (size, index, omega (arith, count, long))

pub returns-in-Err : goal.returns-in-Err
returns-in-Err c =
    let edits = c.args.edits.now in
    let all = key_edits_in edits in
    let done = c.loop-done.done in
    let size = c.run_size-size.result in
    let below : done < length edits = omega arith in
    let front = subst (λ es. HasRunSize es size) (rest-of key_edit_in edits done) c.run_size-size.ensures in
    let fails = subst (λ es. RunsOrFails c.args.options c.deref.result.now es (Err c.in-Err.error)) (run-of key_edit_in edits done size) c.in-Err.ensures in
    let made = subst (λ b. AreMadeTo c.args.options c.args.source.now all done b) (sym c.deref.ensures.value) c.loop-done.invariant in
    subst (λ e. MakesKeyEdits c.args.options c.args.source.now all (Err e)) (sym c.error_after.ensures)
    (fails-later c.args.options c.args.source.now all done c.deref.result.now size c.in-Err.error (omega (arith, length-map edits key_edit_in)) made front fails)

pub overflow_add-done : goal.overflow_add-done
overflow_add-done c =
    let edits = c.args.edits.now in
    let all = key_edits_in edits in
    let done = c.loop-done.done in
    let size = c.run_size-size.result in
    let below : done < length edits = omega arith in
    let count = length-map edits key_edit_in in
    let long = length-drop done all in
    let front = subst (λ es. HasRunSize es size) (rest-of key_edit_in edits done) c.run_size-size.ensures in
    let within = size-within (drop done all) size (omega (arith, count, long)) front in
    let most = within.1 in
    omega (arith, count, long)

pub loop-done-smaller : goal.loop-done-smaller
loop-done-smaller c =
    let edits = c.args.edits.now in
    let all = key_edits_in edits in
    let done = c.loop-done.done in
    let size = c.run_size-size.result in
    let below : done < length edits = omega arith in
    let front = subst (λ es. HasRunSize es size) (rest-of key_edit_in edits done) c.run_size-size.ensures in
    let within = size-within (drop done all) size (omega (arith, length-map edits key_edit_in, length-drop done all)) front in
    let some = within.0 in
    omega arith

pub loop-done-preserved : goal.loop-done-preserved
loop-done-preserved c =
    let edits = c.args.edits.now in
    let all = key_edits_in edits in
    let done = c.loop-done.done in
    let size = c.run_size-size.result in
    let below : done < length edits = omega arith in
    let front = subst (λ es. HasRunSize es size) (rest-of key_edit_in edits done) c.run_size-size.ensures in
    let run = subst (λ es. MakesRun c.args.options c.deref.result.now es (Ok c.in-Ok.left)) (run-of key_edit_in edits done size) c.in-Ok.ensures in
    let made = subst (λ b. AreMadeTo c.args.options c.args.source.now all done b) (sym c.deref.ensures.value) c.loop-done.invariant in
    made-more c.args.options c.args.source.now all done c.deref.result.now size c.in-Ok.left (omega (arith, length-map edits key_edit_in)) made front run

pub returns : goal.returns
returns c =
    let edits = c.args.edits.now in
    let end : length edits ≤ c.loop-done.done = omega arith in
    made-all c.args.options c.args.source.now (key_edits_in edits) c.loop-done.done c.loop-done.bytes (omega (arith, length-map edits key_edit_in)) c.loop-done.invariant
