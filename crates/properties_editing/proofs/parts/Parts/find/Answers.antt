use Rattle.std.proofs.Common.{ap, sym, ◌∙◌}
use Rattle.properties_items.proofs.TextMaps.Values.{at_chars-sorted}
use Rattle.properties_editing.specs.Private.BodyParts.{places_of}
use Rattle.properties_editing.specs.Private.ChangedParts.{last_place}
use Rattle.properties_editing.proofs.parts.Parts.find.Goals as goal

pub returns-in_err-get : goal.returns-in_err-get
returns-in_err-get c =
    let none = at_chars-sorted c.args.self.now.keys.places c.args.key.now c.utf8.key ∙ sym c.in_err-get.ensures.value in
    c.from_residual.ensures ∙ sym (ap (λ p. last_place (places_of p)) none)

pub returns : goal.returns
returns c =
    let found = at_chars-sorted c.args.self.now.keys.places c.args.key.now c.utf8.key ∙ sym c.in_ok-get.ensures.value in
    c.last_place.ensures ∙ sym (ap (λ p. last_place (places_of p)) found)
