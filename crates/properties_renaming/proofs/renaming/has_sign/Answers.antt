use Rattle.std.proofs.Common.{◌∙◌, ap, sym}
use Rattle.std.specs.Prelude.{not}
use Rattle.std.specs.Str.{chars}
use Rattle.properties_format.specs.Text.{is_blanks}
use Rattle.properties_text.specs.declared.parse.Span.{Span}
use Rattle.properties_text.specs.Parsing.{bytes_in}
use Rattle.properties_editing.proofs.BodyValues.{between-pair}
use Rattle.properties_renaming.proofs.RenamedKeys.{blank-pair, comment-pair, sign-told}
use Rattle.properties_renaming.proofs.renaming.has_sign.Goals as goal

pub returns-in-Some-KVPair : goal.returns-in-Some-KVPair
returns-in-Some-KVPair c = λ p.
    let line = c.args.line.now in
    let key = c.in-Some-KVPair.key in
    let value = c.in-Some-KVPair.value in
    let span : Span = record { start = key.end; end = value.start } in
    let found = rw c.in-Some-KVPair.field-0-is at c.in-Some-KVPair.ensures in
    let at = between-pair line key value c.utf8.line found.places found.spans.0 found.spans.1 found.meets in
    ap not (c.are_blanks.ensures ∙ ap (λ w. is_blanks (chars w)) c.range.ensures.value ∙ ap is_blanks (sym (sign-told line span at p)))

pub returns-in-Some-Comment : goal.returns-in-Some-Comment
returns-in-Some-Comment c = λ p.
    let line = c.args.line.now in
    let found = rw c.in-Some-Comment.field-0-is at c.in-Some-Comment.ensures in
    absurd (comment-pair (chars line) (chars (bytes_in line c.in-Some-Comment.field-0-0)) found.meets p)

pub returns-in-None : goal.returns-in-None
returns-in-None c = λ p. absurd (blank-pair (chars c.args.line.now) c.in-None.ensures.meets p)
