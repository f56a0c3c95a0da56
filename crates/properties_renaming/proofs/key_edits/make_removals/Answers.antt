use Rattle.std.proofs.Common.{Ok, ap, map, subst, ◌∙◌}
use Rattle.properties_items.specs.Texts.{characters}
use Rattle.properties_renaming.specs.Commented.{RemovesWithComments}
use Rattle.properties_renaming.proofs.key_edits.make_removals.Goals as goal

pub returns : goal.returns
returns c =
    let made = c.in_ok-remove_with_comments.field-0 in
    subst (λ keys. RemovesWithComments c.args.options c.args.source.now keys (Ok made))
    (ap (map characters) c.deref.ensures.value ∙ c.in_ok-keys.ensures.same)
    c.in_ok-remove_with_comments.ensures
