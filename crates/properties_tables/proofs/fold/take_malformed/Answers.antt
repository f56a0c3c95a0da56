use Rattle.std.proofs.Common.{◌≡◌, ◌∙◌, ap, sym}
use Rattle.std.specs.Str.{chars}
use Rattle.properties_format.specs.Lines.{is_comment_line}
use Rattle.properties_text.proofs.Texts.Joins.{is_comment_line-text}
use Rattle.properties_tables.proofs.FindingFolds.{takes-malformed}
use Rattle.properties_tables.proofs.fold.take_malformed.Goals as goal

pub returns-in_ok-malformed-in_default : goal.returns-in_ok-malformed-in_default
returns-in_ok-malformed-in_default g c =
    let comment : c.is_comment.result ≡ is_comment_line (chars c.args.line.now) =
    c.is_comment.ensures ∙ ap is_comment_line c.as_bytes.ensures.value ∙ sym (is_comment_line-text c.args.line.now c.utf8.line) in
    takes-malformed g.T.Taker.took c.args.line_number (chars c.args.line.now) c.args.taker.now c.malformed.new.self c.args.error c.is_comment.result
    c.requires.none (λ e. c.in_default.not-Memory (c.kind.ensures ∙ e)) comment (rw c.kind.ensures at c.in_ok-malformed-in_default.ensures)
