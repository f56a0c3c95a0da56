use Rattle.std.proofs.Common.{◌≡◌, ◌∙◌, ap, false, refl, sym, true}
use Rattle.std.specs.Prelude.{Some}
use Rattle.std.specs.Str.{chars}
use Rattle.properties_format.specs.Text.{is_empty}
use Rattle.properties_text.proofs.Texts.Characters.{is_empty-chars}
use Rattle.properties_renaming.proofs.commenting.first_model.Goals as goal

pub returns-then-is_empty : goal.returns-then-is_empty
returns-then-is_empty c =
    let none : is_empty (chars c.args.text.now) ≡ true = is_empty-chars c.args.text.now c.utf8.text ∙ sym c.is_empty.ensures ∙ c.if-is_empty.true in
    rw none refl

pub returns : goal.returns
returns c =
    let some : is_empty (chars c.args.text.now) ≡ false = is_empty-chars c.args.text.now c.utf8.text ∙ sym c.is_empty.ensures ∙ c.if-is_empty.false in
    rw some (ap Some c.unwrap_or.ensures)
