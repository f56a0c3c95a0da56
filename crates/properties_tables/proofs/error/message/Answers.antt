use Rattle.std.proofs.{Common.string_bytes, lemmas.Result.IfOk-weaker}
use Rattle.properties_tables.proofs.FailureMessages.{numbered-line, unnumbered-line}
use Rattle.properties_tables.proofs.error.message.Goals as goal

pub returns-in-Some : goal.returns-in-Some
returns-in-Some c =
    let name = c.args.name.now in
    let reason = string_bytes c.in_ok-reason.reason in
    let place = c.place-place.ensures in
    IfOk-weaker c.format.result _ _
    (λ line h. numbered-line name c.args.failure.now reason (string_bytes line) place c.in_ok-reason.ensures c.in-Some.number c.in-Some.ensures h)
    c.format.ensures.ok

pub returns : goal.returns
returns c =
    let name = c.args.name.now in
    let reason = string_bytes c.in_ok-reason.reason in
    let place = c.place-place.ensures in
    IfOk-weaker c.format-in-None.result _ _
    (λ line h. unnumbered-line name c.args.failure.now reason (string_bytes line) place c.in_ok-reason.ensures c.in-None.ensures h)
    c.format-in-None.ensures.ok
