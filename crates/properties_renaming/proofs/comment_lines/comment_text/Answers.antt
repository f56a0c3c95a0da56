use Rattle.std.proofs.Common.{ap, subst, sym, ◌∙◌}
use Rattle.std.specs.Str.{chars}
use Rattle.properties_renaming.specs.CommentLines.{IsCommentLine}
use Rattle.properties_renaming.specs.Private.CommentTexts.{without_first_blank}
use Rattle.properties_renaming.proofs.CommentTexts.{comment-text}
use Rattle.properties_renaming.proofs.comment_lines.comment_text.Goals as goal

pub range_from-requires : goal.range_from-requires
range_from-requires c = λ _.
    let blanks = rw c.as_bytes.ensures.value at c.leading_blanks-sign.ensures in
    (comment-text c.args.line.now c.leading_blanks-sign.result c.utf8.line c.requires blanks.within blanks.rest).whole

pub returns : goal.returns
returns c =
    let blanks = rw c.as_bytes.ensures.value at c.leading_blanks-sign.ensures in
    let text = (comment-text c.args.line.now c.leading_blanks-sign.result c.utf8.line c.requires blanks.within blanks.rest).text in
    subst (IsCommentLine (chars c.args.line.now)) (ap (λ v. without_first_blank (chars v)) (sym c.range_from.ensures.value) ∙ sym c.without_first_blank.ensures) text
