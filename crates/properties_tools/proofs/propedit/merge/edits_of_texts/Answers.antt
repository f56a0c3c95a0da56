use Rattle.std.proofs.Common.{rules}
use Rattle.std.proofs.lemmas.Result.{err_from_is_err_and}
use Rattle.java_properties.specs.Editing.{edits_in}
use Rattle.properties_tools.proofs.Merging.{no-value, texts-more}
use Rattle.properties_tools.proofs.propedit.merge.edits_of_texts.Goals as goal

pub returns-in_err-value : goal.returns-in_err-value
returns-in_err-value c =
    let from = c.from_residual-in_err-value in
    let error = err_from_is_err_and from.result from.ensures.1 in
    let edits = edits_in c.loop-rest.edits.items in
    let how = c.in_err-value.field-0.0 in
    rw (error.1, error.2)
    (no-value c.args.file.now c.loop-rest.rest.now c.in_ok-key.key.now c.in_ok-key.after_key.now edits c.loop-rest.invariant.1 c.in_ok-key.ensures
    c.in-Ok.ensures.cases.1 how c.in_err-value.ensures)

pub loop-rest-preserved : goal.loop-rest-preserved
loop-rest-preserved c =
    let edits = edits_in c.loop-rest.edits.items in
    let took =
    texts-more c.args.file.now c.loop-rest.rest.now c.in_ok-key.key.now c.in_ok-key.after_key.now edits c.loop-rest.invariant.1 c.in_ok-key.ensures
    c.in_ok-value.value.now c.in_ok-value.others.now (edits_in c.push.new.edits.items) c.in_ok-value.ensures c.in_ok-push.ensures in
    (search rules, took)
