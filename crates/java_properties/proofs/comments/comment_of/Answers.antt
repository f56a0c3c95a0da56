use Rattle.std.specs.Str.{chars}
use Rattle.std.proofs.lemmas.Result.{err_from_is_err_and}
use Rattle.java_properties.specs.Private.PassedGroups.{passed_texts}
use Rattle.java_properties.proofs.ViewedComments.{none-left, shown-all, shown-more, shown-none, shown-refused}
use Rattle.java_properties.proofs.comments.comment_of.Goals as goal

pub loop-passed-init : goal.loop-passed-init
loop-passed-init c = rw c.new.ensures.items (shown-none (chars c.args.key.now) c.new-2.result c.new-2.ensures c.in_ok-view.ensures)

pub loop-passed-preserved : goal.loop-passed-preserved
loop-passed-preserved c =
    let takes = rw c.in-Some.is at c.in_ok-group.ensures.gives in
    let passes = rw c.line.ensures at c.in_ok-pass.ensures in
    shown-more c.in-Some.group (passed_texts c.pass.new.self) c.loop-passed.invariant takes passes

pub returns-in_err-pass : goal.returns-in_err-pass
returns-in_err-pass c =
    let error = err_from_is_err_and c.from_residual-in_err-pass.result c.from_residual-in_err-pass.ensures.1 in
    let takes = rw c.in-Some.is at c.in_ok-group.ensures.gives in
    let failed = rw c.line.ensures at c.in_err-pass.ensures in
    rw (error.1, error.2) (shown-refused c.in-Some.group c.in_err-pass.field-0.0 c.loop-passed.invariant takes failed)

pub returns : goal.returns
returns c = shown-all c.loop-passed.invariant (none-left c.loop-passed.view c.next.new.self c.in_ok-group.field-0 c.in_ok-group.ensures.gives c.in_default.not-Some)
