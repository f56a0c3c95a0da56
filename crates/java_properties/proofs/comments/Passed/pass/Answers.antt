use Rattle.std.proofs.Common.{refl, sym, ap, ◌∙◌}
use Rattle.std.specs.Str.{chars}
use Rattle.java_properties.specs.Private.PassedGroups.{after_other, passed_texts}
use Rattle.java_properties.proofs.KeyComments.{passed-added, passed-pair, shown-line}
use Rattle.java_properties.proofs.comments.Passed.pass.Goals as goal
use Rattle.java_properties.proofs.comments.Passed.pass.Goals.{then-branch, else-branch}

pub add_line-requires : goal.add_line-requires
add_line-requires c = shown-line c.args.group (chars c.args.line.now) c.requires.kind (sym c.is_comment_line.ensures ∙ c.if-is_comment_line.true)

pub separate-requires : goal.separate-requires
separate-requires c = shown-line c.args.group (chars c.args.line.now) c.requires.kind

pub returns-then-is_comment_line : goal.returns-then-is_comment_line
returns-then-is_comment_line c =
    let on = sym c.is_comment_line.ensures ∙ c.if-is_comment_line.true in
    passed-added (chars c.args.key.now) (chars c.args.line.now) _ (passed_texts c.args.self.now) (passed_texts c.separate.new.self) (passed_texts c.add_line.new.self) on
    c.separate.ensures c.in_ok-add_line.ensures

pub returns : goal.returns
returns c =
    let left = passed_texts c.separate.new.self in
    let other = sym c.is_comment_line.ensures ∙ c.if-is_comment_line.false in (
      left,
      c.separate.ensures,
      passed-pair (chars c.args.key.now) (chars c.args.line.now) _ c.in_ok-has_key.field-0 left (passed_texts c.if-branch.self) other
          c.in_ok-has_key.ensures (elim c.if-branch.branch [
            | then-branch w ↦ ap passed_texts w.self-is ∙ w.keep.ensures ∙ sym (ap (λ b. after_other b left) w.if-branch.true)
            | else-branch w ↦ ap passed_texts w.self-is ∙ (rw (w.clear.ensures.items, w.if-branch.false) refl)
          ]),
    )
