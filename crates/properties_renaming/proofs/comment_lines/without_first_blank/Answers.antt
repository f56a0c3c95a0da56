use Rattle.std.proofs.Common.{ap, ◌∙◌}
use Rattle.std.specs.Str.{chars}
use Rattle.properties_renaming.proofs.CommentTexts.{none-first, some-first}
use Rattle.properties_renaming.proofs.comment_lines.without_first_blank.Goals as goal

pub returns-then-blanks-eq0 : goal.returns-then-blanks-eq0
returns-then-blanks-eq0 c =
    let blanks = rw c.as_bytes.ensures.value at c.leading_blanks-blanks.ensures in
    none-first c.args.text.now c.leading_blanks-blanks.result c.utf8.text c.if-blanks-eq0.true blanks.rest

pub range_from-requires : goal.range_from-requires
range_from-requires c = λ _.
    let blanks = rw c.as_bytes.ensures.value at c.leading_blanks-blanks.ensures in
    (some-first c.args.text.now c.leading_blanks-blanks.result c.utf8.text c.if-blanks-eq0.false blanks.within blanks.rest).whole

pub returns : goal.returns
returns c =
    let blanks = rw c.as_bytes.ensures.value at c.leading_blanks-blanks.ensures in
    ap chars c.range_from.ensures.value ∙ (some-first c.args.text.now c.leading_blanks-blanks.result c.utf8.text c.if-blanks-eq0.false blanks.within blanks.rest).rest
