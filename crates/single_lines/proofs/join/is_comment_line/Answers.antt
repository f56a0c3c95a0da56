use Rattle.std.proofs.Common.{sym, ap, ◌∙◌}
use Rattle.std.specs.Str.{chars}
use Rattle.properties_format.specs.Lines.{is_comment_line}
use Rattle.properties_text.proofs.Texts.Joins.{is_comment_line-text}
use Rattle.single_lines.proofs.join.is_comment_line.Goals as goal

pub returns : goal.returns
returns c =
    c.is_comment.ensures
    ∙ sym (is_comment_line-text c.as_bytes.result.now c.as_bytes.ensures.utf8)
    ∙ ap (λ v. is_comment_line (chars v)) c.as_bytes.ensures.value
