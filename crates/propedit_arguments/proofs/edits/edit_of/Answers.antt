use Rattle.std.proofs.Common.{◌∷◌, map, string_bytes, refl, subst, sym}
use Rattle.propedit_arguments.specs.Private.Edits.{TakesEdit, no_edit}
use Rattle.propedit_arguments.proofs.edits.edit_of.Goals as goal

pub returns-in_default : goal.returns-in_default
returns-in_default c = λ _. no_edit c.args.command _ refl c.in_default.not-set c.in_default.not-remove c.in_default.not-rename c.in_default.not-text refl

pub returns-in-text : goal.returns-in-text
returns-in-text c = subst (λ command. TakesEdit (command ∷ map string_bytes c.args.words.now) c.next_comment.result) (sym c.in-text.is) c.next_comment.ensures
