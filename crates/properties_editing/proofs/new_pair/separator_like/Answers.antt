use Rattle.std.proofs.Common.{◌∙◌, ap, sym}
use Rattle.std.specs.Prelude.{Some}
use Rattle.std.specs.Option.{option_map}
use Rattle.std.specs.Str.{chars}
use Rattle.properties_format.specs.Valued.{separator_after}
use Rattle.properties_editing.proofs.BodyValues.{alone-between}
use Rattle.properties_editing.proofs.new_pair.separator_like.Goals as goal

pub returns : goal.returns
returns c =
    let between = rw c.in-None.is at c.separator_span.ensures in
    sym (ap (option_map (separator_after (chars c.args.key.now)))
    (alone-between c.line-line.result.now c.line-line.ensures c.in_ok-groups.ensures c.requires.alone ∙ between))

pub returns-in-Some : goal.returns-in-Some
returns-in-Some c =
    let between = rw c.in-Some.is at c.separator_span.ensures in
    ap Some (c.in_ok-separator_for-in-Some.ensures ∙ ap (λ v. separator_after (chars c.args.key.now) (chars v)) c.cut.ensures)
    ∙ sym (ap (option_map (separator_after (chars c.args.key.now)))
    (alone-between c.line-line.result.now c.line-line.ensures c.in_ok-groups.ensures c.requires.alone ∙ between.of_pair))
