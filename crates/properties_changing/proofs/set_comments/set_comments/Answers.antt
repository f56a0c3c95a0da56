use Rattle.std.proofs.Common.{◌∙◌, ap, inr, rules}
use Rattle.std.specs.Str.{chars}
use Rattle.properties_changing.proofs.RefusedRenames.{refused-key}
use Rattle.properties_changing.proofs.set_comments.set_comments.Goals as goal

pub returns-in_ok-from_str-in-Err-NoKey : goal.returns-in_ok-from_str-in-Err-NoKey
returns-in_ok-from_str-in-Err-NoKey c =
    let index = c.in-Err-NoKey.index in
    let told = rw (c.in-Err-NoKey.field-0-is, c.deref.ensures.value) at c.in-Err-NoKey.ensures in
    let named = ap chars (c.in_ok-from_str-in-Err-NoKey.ensures.ok ∙ c.as_str-key.ensures.value) in
    inr (search rules, (index, told.1, named ∙ refused-key c.args.comments.now.list.items index c.index.result.now told.1 c.index.ensures))
