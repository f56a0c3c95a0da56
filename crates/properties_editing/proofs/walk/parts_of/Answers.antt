use Rattle.properties_editing.proofs.BodyViews.{blank-parts, comment-parts, pair-parts}
use Rattle.properties_editing.proofs.walk.parts_of.Goals as goal

pub returns-in-None : goal.returns-in-None
returns-in-None c = blank-parts c.args.line.now c.utf8.line c.in-None.ensures.meets

pub returns-in-Some-Comment : goal.returns-in-Some-Comment
returns-in-Some-Comment c =
    let found = rw c.in-Some-Comment.field-0-is at c.in-Some-Comment.ensures in
    let blanks = rw c.as_bytes.ensures.value at c.leading_blanks-sign.ensures in
    comment-parts c.args.line.now c.leading_blanks-sign.result c.in-Some-Comment.text c.utf8.line blanks.within blanks.rest found.places found.spans found.meets

pub returns-in-Some-KVPair : goal.returns-in-Some-KVPair
returns-in-Some-KVPair c =
    let found = rw c.in-Some-KVPair.field-0-is at c.in-Some-KVPair.ensures in
    pair-parts c.args.line.now c.in-Some-KVPair.key c.in-Some-KVPair.value c.utf8.line found.places found.spans.0 found.spans.1 found.meets
