use Rattle.std.proofs.Common.{◌≡◌, ◌≤◌, length, drop, sym, ap, subst, ◌∙◌}
use Rattle.std.specs.Str.{IsUtf8, chars}
use Rattle.std.proofs.lemmas.Str.{IsCharBoundary-from_drop}
use Rattle.properties_format.specs.Text.{without_leading_blanks}
use Rattle.properties_text.proofs.Texts.Split.{without_leading_blanks-part}
use Rattle.single_lines.proofs.join.without_leading_blanks.Goals as goal

pub range_from-requires : goal.range_from-requires
range_from-requires c = λ _.
    let text = c.args.text.now in
    let start = c.leading_blanks.result in
    let within : start ≤ length text = subst (λ v. start ≤ length v) c.as_bytes.ensures.value c.leading_blanks.ensures.within in
    let rest : drop start text ≡ without_leading_blanks text =
    subst (λ v. drop start v ≡ without_leading_blanks v) c.as_bytes.ensures.value c.leading_blanks.ensures.rest in
    IsCharBoundary-from_drop text start within (subst IsUtf8 (sym rest) (without_leading_blanks-part text c.utf8.text).utf8)

pub returns : goal.returns
returns c =
    let text = c.args.text.now in
    let start = c.leading_blanks.result in
    let rest : drop start text ≡ without_leading_blanks text =
    subst (λ v. drop start v ≡ without_leading_blanks v) c.as_bytes.ensures.value c.leading_blanks.ensures.rest in
    ap chars (c.range_from.ensures.value ∙ rest) ∙ (without_leading_blanks-part text c.utf8.text).same
