use Rattle.std.proofs.Common.{◌≡◌, ◌∙◌, [], ap, false, rules, subst, sym, true}
use Rattle.std.specs.Prelude.{if◌then◌else◌, None}
use Rattle.properties_format.specs.Lines.{is_comment_line}
use Rattle.properties_renaming.specs.CommentLines.{is_line_of_comment}
use Rattle.properties_renaming.specs.FoundSeparators.{PassesGroup}
use Rattle.properties_renaming.proofs.CommentedKeys.{headed-next, none-passed, one-passed, told-line}
use Rattle.properties_renaming.proofs.comments.next_headed.Goals as goal
use Rattle.properties_renaming.proofs.comments.next_headed.Goals.{then-pass, else-pass}

pub loop-group-init : goal.loop-group-init
loop-group-init c = ([], [], none-passed c.args.view.now c.new-last.result c.new-last.ensures)

pub pass-requires : goal.pass-requires
pass-requires c =
    let takes = rw c.in-Some.is at c.in_ok-group.ensures.gives in
    λ on. ap is_comment_line c.line.ensures ∙ told-line c.next.new.self c.in-Some.group takes.is_group on

pub loop-group-preserved : goal.loop-group-preserved
loop-group-preserved c =
    let takes = rw c.in-Some.is at c.in_ok-group.ensures.gives in
    let (above, comment, passed) = c.loop-group.invariant in
    let on : c.is_comment_line.result ≡ true = search rules in
    let begun : c.if-pass.above ≡ (if c.pass.result then None else c.loop-group.above) = elim c.if-pass.branch [
      | then-pass w ↦ rw w.if-pass.true w.above-is
      | else-pass w ↦ rw w.if-pass.false w.above-is
    ] in
    let passes = subst (λ x. PassesGroup (is_line_of_comment c.in-Some.group) x c.loop-group.last c.pass.result c.pass.new.self) c.line.ensures c.pass.ensures in
    (_, _, one-passed c.in-Some.group c.unwrap_or-start.result c.pass.result passed takes passes begun c.unwrap_or-start.ensures (sym c.is_comment_line.ensures ∙ on))

pub returns-then-not-is_comment_line-clause-gives : goal.returns-then-not-is_comment_line-clause-gives
returns-then-not-is_comment_line-clause-gives c =
    let takes = rw c.in-Some.is at c.in_ok-group.ensures.gives in
    let (above, comment, passed) = c.loop-group.invariant in
    let off : c.is_comment_line.result ≡ false = search rules in
    let begun : c.if-pass.above ≡ (if c.pass.result then None else c.loop-group.above) = elim c.if-pass.branch [
      | then-pass w ↦ rw w.if-pass.true w.above-is
      | else-pass w ↦ rw w.if-pass.false w.above-is
    ] in
    let passes = subst (λ x. PassesGroup (is_line_of_comment c.in-Some.group) x c.loop-group.last c.pass.result c.pass.new.self) c.line.ensures c.pass.ensures in
    headed-next c.in-Some.group c.unwrap_or-start.result c.pass.result c.pass.new.self passed takes passes begun c.unwrap_or-start.ensures
    (sym c.is_comment_line.ensures ∙ off)
