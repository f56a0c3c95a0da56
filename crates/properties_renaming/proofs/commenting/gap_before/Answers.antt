use Rattle.std.proofs.Common.{◌∙◌, sym}
use Rattle.std.specs.Str.{chars}
use Rattle.properties_text.proofs.Texts.Characters.{is_empty-chars}
use Rattle.properties_renaming.proofs.CommentTexts.{text-blank, text-full}
use Rattle.properties_renaming.proofs.NewComments.{gap-full, gap-kept, gap-none, gap-space}
use Rattle.properties_renaming.proofs.commenting.gap_before.Goals as goal

pub returns-then-is_empty : goal.returns-then-is_empty
returns-then-is_empty c =
    gap-none c.args.blank.now (chars c.args.text.now) (is_empty-chars c.args.text.now c.utf8.text ∙ sym c.is_empty.ensures ∙ c.if-is_empty.true)

pub returns-then-leading_blanks-eq0 : goal.returns-then-leading_blanks-eq0
returns-then-leading_blanks-eq0 c =
    let blanks = rw c.as_bytes.ensures.value at c.leading_blanks.ensures in
    gap-full c.args.blank.now (chars c.args.text.now) (is_empty-chars c.args.text.now c.utf8.text ∙ sym c.is_empty.ensures ∙ c.if-is_empty.false)
    (text-full c.args.text.now c.leading_blanks.result c.utf8.text c.if-leading_blanks-eq0.true blanks.rest)

pub returns-then-is_empty-2 : goal.returns-then-is_empty-2
returns-then-is_empty-2 c =
    let blanks = rw c.as_bytes.ensures.value at c.leading_blanks.ensures in
    gap-space c.args.blank.now (chars c.args.text.now)
    (text-blank c.args.text.now c.leading_blanks.result c.utf8.text c.if-leading_blanks-eq0.false blanks.within blanks.rest)
    (sym c.is_empty-2.ensures ∙ c.if-is_empty-2.true)

pub returns : goal.returns
returns c =
    gap-kept c.args.blank.now (chars c.args.text.now) (is_empty-chars c.args.text.now c.utf8.text ∙ sym c.is_empty.ensures ∙ c.if-is_empty.false)
    (sym c.is_empty-2.ensures ∙ c.if-is_empty-2.false)
