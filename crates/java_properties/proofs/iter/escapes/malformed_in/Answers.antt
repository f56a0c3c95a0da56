use Rattle.std.proofs.Common.{◌∙◌, ◌∷◌, [], ap, ap₂, sym}
use Rattle.std.specs.Str.{chars}
use Rattle.properties_format.specs.Lines.{is_comment_line}
use Rattle.properties_format.specs.Found.{escapes_from}
use Rattle.properties_text.proofs.Texts.Joins.{is_comment_line-text}
use Rattle.java_properties.specs.Findings.{escape_records}
use Rattle.java_properties.proofs.iter.escapes.malformed_in.Goals as goal

pub returns-in_default : goal.returns-in_default
returns-in_default c = sym (ap escape_records (c.in_default.ensures c.args.line_number))

pub returns : goal.returns
returns c =
    ap₂ (λ v w. record { line_number = c.args.line_number; kind = v; in_comment = w } ∷ []) c.malformed_kind.ensures
    (c.is_comment.ensures ∙ ap is_comment_line c.as_bytes.ensures.value ∙ sym (is_comment_line-text c.args.line.now c.utf8.line))
    ∙ sym (ap (λ v. escape_records (escapes_from c.args.line_number (chars c.args.line.now) v [])) c.in-Err.ensures)
