use Rattle.std.proofs.Common.{refl}
use Rattle.properties_format.specs.Split as split
use Rattle.std.specs.Str.{chars}
use Rattle.properties_text.specs.Parsing.{bytes_in}
use Rattle.properties_editing.proofs.BodyValues.{between-pair, between-none}
use Rattle.properties_editing.proofs.layout.separator_span.Goals as goal

pub returns-in_err-parse_spans : goal.returns-in_err-parse_spans
returns-in_err-parse_spans c = rw c.from_residual.ensures (between-none c.args.line.now split.blank c.in_err-parse_spans.ensures.meets refl)

pub returns-in-Comment : goal.returns-in-Comment
returns-in-Comment c =
    let found = rw c.in-Comment.is at c.in_ok-parse_spans.ensures in
    between-none c.args.line.now (split.comment (chars (bytes_in c.args.line.now c.in-Comment.field-0))) found.meets refl

pub returns-in-KVPair : goal.returns-in-KVPair
returns-in-KVPair c =
    let found = rw c.in-KVPair.is at c.in_ok-parse_spans.ensures in
    between-pair c.args.line.now c.in-KVPair.key c.in-KVPair.value c.utf8.line found.places found.spans.0 found.spans.1 found.meets
