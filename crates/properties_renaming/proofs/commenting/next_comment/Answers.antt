use Rattle.std.proofs.Common.{◌≡◌, ◌∙◌, ap, false, refl, rules, subst, sym, true}
use Rattle.std.specs.Prelude.{Some}
use Rattle.std.specs.Str.{chars}
use Rattle.properties_format.specs.Lines.{is_comment_line}
use Rattle.properties_renaming.specs.CommentLines.{IsCommentLine, is_line_of_comment}
use Rattle.properties_renaming.specs.FoundSeparators.{PassesGroup}
use Rattle.properties_renaming.proofs.CommentedKeys.{headed-nearer, told-line}
use Rattle.properties_renaming.proofs.FoundComments.{AreGathered, IsBegun, comment-next, none-gathered, one-gathered}
use Rattle.properties_renaming.proofs.commenting.next_comment.Goals as goal
use Rattle.properties_renaming.proofs.commenting.next_comment.Goals.{else-pass, then-pass}

pub loop-texts-init : goal.loop-texts-init
loop-texts-init c = none-gathered c.args.view.now c.new-last.result c.new-texts.result.items c.new-last.ensures c.new-texts.ensures.items

pub pass-requires : goal.pass-requires
pass-requires c =
    let takes = rw c.in-Some.is at c.in_ok-group.ensures.gives in
    λ on. ap is_comment_line c.line.ensures ∙ told-line c.next.new.self c.in-Some.group takes.is_group on

pub comment_text-text-requires : goal.comment_text-text-requires
comment_text-text-requires c =
    let takes = rw c.in-Some.is at c.in_ok-group.ensures.gives in
    let on : c.is_comment_line.result ≡ true = search rules in
    ap is_comment_line c.line-in-Some.ensures ∙ told-line c.next.new.self c.in-Some.group takes.is_group (sym c.is_comment_line.ensures ∙ on)

pub loop-texts-preserved : goal.loop-texts-preserved
loop-texts-preserved c =
    let takes = rw c.in-Some.is at c.in_ok-group.ensures.gives in
    let on : c.is_comment_line.result ≡ true = search rules in
    let begun : IsBegun c.pass.result c.loop-texts.last.sign c.loop-texts.above c.if-pass.above c.loop-texts.texts.items c.if-pass.texts.items c.loop-texts.model c.if-pass.model
    c.loop-texts.separator c.if-pass.separator = elim c.if-pass.branch [
      | then-pass w ↦ rw w.if-pass.true (record { start_is = w.above-is; texts_are = rw (w.texts-is, w.clear.ensures.items) refl; model_is = w.model-is; separator_is = w.separator-is })
      | else-pass w ↦ rw w.if-pass.false (record { start_is = w.above-is; texts_are = rw w.texts-is refl; model_is = w.model-is; separator_is = w.separator-is })
    ] in
    let passes = subst (λ x. PassesGroup (is_line_of_comment c.in-Some.group) x c.loop-texts.last c.pass.result c.pass.new.self) c.line.ensures c.pass.ensures in
    let text = chars c.comment_text-text.result.now in
    let says = subst (λ x. IsCommentLine x text) c.line-in-Some.ensures c.comment_text-text.ensures in
    subst (λ m. AreGathered c.args.view.now c.next.new.self (Some c.unwrap_or-start.result) c.pass.new.self c.push.new.self.items m c.if-pass.separator) (sym c.first_model-model.ensures)
    (one-gathered c.in-Some.group c.unwrap_or-start.result c.pass.result c.loop-texts.invariant begun c.push.new.self.items c.in_ok-from_str.field-0 text takes
    passes c.unwrap_or-start.ensures (sym c.is_comment_line.ensures ∙ on) says (ap chars c.in_ok-from_str.ensures.ok) c.in_ok-push.ensures.items)

pub returns-then-not-is_comment_line-clause-gives : goal.returns-then-not-is_comment_line-clause-gives
returns-then-not-is_comment_line-clause-gives c =
    let takes = rw c.in-Some.is at c.in_ok-group.ensures.gives in
    let off : c.is_comment_line.result ≡ false = search rules in
    let begun : IsBegun c.pass.result c.loop-texts.last.sign c.loop-texts.above c.if-pass.above c.loop-texts.texts.items c.if-pass.texts.items c.loop-texts.model c.if-pass.model
    c.loop-texts.separator c.if-pass.separator = elim c.if-pass.branch [
      | then-pass w ↦ rw w.if-pass.true (record { start_is = w.above-is; texts_are = rw (w.texts-is, w.clear.ensures.items) refl; model_is = w.model-is; separator_is = w.separator-is })
      | else-pass w ↦ rw w.if-pass.false (record { start_is = w.above-is; texts_are = rw w.texts-is refl; model_is = w.model-is; separator_is = w.separator-is })
    ] in
    let passes = subst (λ x. PassesGroup (is_line_of_comment c.in-Some.group) x c.loop-texts.last c.pass.result c.pass.new.self) c.line.ensures c.pass.ensures in
    comment-next c.in-Some.group c.unwrap_or-start.result c.pass.result c.loop-texts.invariant begun c.pass.new.self
    (record { headed = record { start = c.unwrap_or-start.result; group = c.in-Some.group }; texts = c.if-pass.texts; model = c.if-pass.model; separator = c.if-pass.separator })
    takes passes c.unwrap_or-start.ensures (sym c.is_comment_line.ensures ∙ off) refl

pub returns-then-not-is_comment_line-clause-nearer : goal.returns-then-not-is_comment_line-clause-nearer
returns-then-not-is_comment_line-clause-nearer c =
    let takes = rw c.in-Some.is at c.in_ok-group.ensures.gives in
    headed-nearer c.loop-texts.invariant.passed takes
