use Rattle.std.proofs.Common.{◌∷◌, [], subst}
use Rattle.properties_format.specs.Edits.{AreEdited}
use Rattle.properties_editing.specs.Editing.{asked_for}
use Rattle.properties_editing.specs.Private.Sound.{Returns}
use Rattle.properties_editing.specs.Private.Sources.{borrowed_edit_in}
use Rattle.properties_editing.proofs.EditsInTurn.{returns-once}
use Rattle.properties_editing.proofs.plan.edit_once.Goals as goal

pub returns : goal.returns
returns c =
    let r = asked_for c.args.options in
    let made = subst (λ v. Returns c.args.options.comments r.encoding c.args.source.now (AreEdited r c.args.source.now (v ∷ [])) c.edit_opened.result) c.in_ok-edit.ensures c.edit_opened.ensures in
    returns-once c.args.options.comments r c.args.source.now (borrowed_edit_in c.args.edit) c.edit_opened.result made
