use Rattle.std.proofs.Common.{◌∙◌, ap, sym}
use Rattle.properties_format.specs.Lines.{is_comment_line}
use Rattle.properties_text.proofs.Texts.Joins.{is_comment_line-text}
use Rattle.properties_editing.proofs.source.Comments.are_passed_over.Goals as goal

pub returns-in-PassedOver : goal.returns-in-PassedOver
returns-in-PassedOver c =
    rw c.in-PassedOver.is (c.is_comment.ensures ∙ ap is_comment_line c.as_bytes.ensures.value ∙ sym (is_comment_line-text c.args.line.now c.utf8.line))
