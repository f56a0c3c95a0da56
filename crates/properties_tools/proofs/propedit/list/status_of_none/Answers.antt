use Rattle.std.proofs.Common.{◌∙◌, ap, sym}
use Rattle.std.specs.Prelude.{cond}
use Rattle.properties_text.proofs.Texts.Characters.{is_empty-chars}
use Rattle.properties_tools.proofs.propedit.list.status_of_none.Goals as goal

pub returns-then-is_empty : goal.returns-then-is_empty
returns-then-is_empty c =
    sym (ap (λ b. cond b 0 1) (is_empty-chars c.args.prefix.now c.utf8.prefix ∙ sym c.is_empty.ensures ∙ c.if-is_empty.true))

pub returns-else-is_empty : goal.returns-else-is_empty
returns-else-is_empty c =
    sym (ap (λ b. cond b 0 1) (is_empty-chars c.args.prefix.now c.utf8.prefix ∙ sym c.is_empty.ensures ∙ c.if-is_empty.false))
