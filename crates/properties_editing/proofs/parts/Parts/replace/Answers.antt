use Rattle.std.proofs.Common.{◌≡◌, ◌++◌, ◌∷◌, ◌+◌, take, drop, ap, ◌∙◌}
use Rattle.std.specs.Prelude.{get_or}
use Rattle.properties_editing.specs.Private.BodyParts.{no_part}
use Rattle.properties_editing.specs.Private.ChangedParts.{closing_after_new, part_with_bytes}
use Rattle.properties_editing.specs.declared.parts.Part.{Part}
use Rattle.properties_editing.proofs.PartLists.{set_alone}
use Rattle.std.proofs.lemmas.List.{get_or_default}
use Rattle.properties_editing.proofs.parts.Parts.replace.Goals as goal

pub returns : goal.returns
returns c =
    let ps = c.args.self.now.parts.items in
    let place = c.args.place in
    let part : Part = c.index_mut-part.result.now in
    let is : part ≡ get_or ps place no_part = c.index_mut-part.ensures.value ∙ get_or_default ps place part no_part c.requires.place in
    record {
      parts = set_alone ps place (part_with_bytes c.args.bytes part) c.requires.place
          ∙ ap (λ p. take place ps ++ part_with_bytes c.args.bytes p ∷ drop (place + 1) ps) is;
      keys = c.set_value.ensures;
      closing = c.closing_after_new-self.ensures ∙ ap (λ p. let q : Part = p in closing_after_new q.ending c.args.self.now.closing) is;
    }
