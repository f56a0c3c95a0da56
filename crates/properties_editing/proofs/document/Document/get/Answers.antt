use Rattle.std.proofs.Common.{Some, ap, sym, subst, ◌∙◌}
use Rattle.std.specs.Str.{chars}
use Rattle.properties_items.proofs.TextMaps.Values.{at_chars-sorted}
use Rattle.properties_editing.specs.Documents.{HasValueAt}
use Rattle.properties_editing.specs.Private.BodyDocuments.{open_document}
use Rattle.properties_editing.specs.Private.BodyParts.{value_of}
use Rattle.properties_editing.proofs.BodyDocuments.{has-value}
use Rattle.properties_editing.proofs.document.Document.get.Goals as goal

pub returns-in_err-get : goal.returns-in_err-get
returns-in_err-get c =
    let d = c.self.inside in
    let key = chars c.args.key.now in
    let found = at_chars-sorted d.edited.parts.keys.places c.args.key.now c.utf8.key ∙ sym c.in_err-get.ensures.value in
    rw (sym c.self.view_is, c.from_residual.ensures)
    (subst (HasValueAt (open_document d) key) (ap value_of found) (has-value d c.self.invariant key))

pub returns : goal.returns
returns c =
    let d = c.self.inside in
    let key = chars c.args.key.now in
    let found = at_chars-sorted d.edited.parts.keys.places c.args.key.now c.utf8.key ∙ sym c.in_ok-get.ensures.value in
    rw (sym c.self.view_is)
    (subst (HasValueAt (open_document d) key) (ap value_of found ∙ ap (λ v. Some (chars v)) (sym c.as_str.ensures.value)) (has-value d c.self.invariant key))
