use Rattle.std.proofs.Common.{refl}
use Rattle.std.proofs.lemmas.List.{take_rest}
use Rattle.std.proofs.lemmas.Result.{err_from_is_err_and}
use Rattle.properties_text.specs.Escaping.{malformed_in}
use Rattle.properties_text.proofs.Texts.Resolving.{resolved_end, resolved_broken}
use Rattle.properties_text.proofs.SpeltTexts.Searches.{split-in, plain-in, one-read}
use Rattle.properties_text.proofs.escape.check_escapes.Goals as goal

pub read_escape-requires-clause-well : goal.read_escape-requires-clause-well
read_escape-requires-clause-well c =
    rw take_rest (split-in c.args.encoding c.loop-at.rest.now c.in-Some.at c.loop-at.invariant.well c.in-Some.ensures).well

pub returns-in_err-escape : goal.returns-in_err-escape
returns-in_err-escape c =
    let held = c.loop-at.invariant in
    let p = err_from_is_err_and c.from_residual.result c.from_residual.ensures.1 in
    let read = rw take_rest at c.in_err-escape.ensures in
    let s = split-in c.args.encoding c.loop-at.rest.now c.in-Some.at held.well c.in-Some.ensures in
    rw (p.1, p.2) (resolved_broken s.front _ (malformed_in c.in_err-escape.field-0.0) held.resolved s.meaning read.1)

pub loop-at-preserved : goal.loop-at-preserved
loop-at-preserved c =
    let rest = c.loop-at.rest.now in
    let at = c.in-Some.at in
    let held = c.loop-at.invariant in
    let read = rw take_rest at c.in_ok-escape.ensures in
    rw (take_rest _ c.in_ok-escape.escape.length, take_rest rest at)
    (one-read c.args.encoding c.args.text.now rest at c.in_ok-escape.escape held (split-in c.args.encoding rest at held.well c.in-Some.ensures) read)

pub returns : goal.returns
returns c =
    let held = c.loop-at.invariant in
    let all = resolved_end held.resolved (plain-in c.args.encoding c.loop-at.rest.now held.well c.in_default.ensures) refl in
    (all.0, all.1)
