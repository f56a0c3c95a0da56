use Rattle.std.proofs.Common.{ap, ap₂, ◌∙◌, ◌++◌}
use Rattle.std.specs.Str.{chars}
use Rattle.properties_format.specs.Edited.{pair_bytes}
use Rattle.properties_items.proofs.Scalars.{chars-scalars}
use Rattle.properties_editing.specs.Private.Sources.{printed_repertoire}
use Rattle.properties_editing.proofs.EditedParts.{place-within, source-put}
use Rattle.properties_editing.proofs.plan.put.Goals as goal

pub replace-requires-clause-place : goal.replace-requires-clause-place
replace-requires-clause-place c = place-within c.requires.parts.stand (chars c.args.key.now) c.in-Some.place c.in-Some.ensures

pub returns-clause-parts : goal.returns-clause-parts
returns-clause-parts c = λ r now named is p.
    let key = chars c.args.key.now in
    let value = chars c.args.value.now in
    let opened = c.args.edited.now.opened in
    let printed = c.as_slice.ensures ∙ c.in_ok-print_new.ensures
    ∙ ap₂ (λ v b. v ++ pair_bytes (printed_repertoire opened) b key value) c.new-line.ensures c.is_first-first.ensures in
    source-put p.stand p.sound key value c.in-Some.place c.in_ok-bytes.bytes c.in_ok-text.text c.replace.new.self
    (chars-scalars c.args.key.now c.utf8.key) (chars-scalars c.args.value.now c.utf8.value) (ap chars c.in_ok-text.ensures.ok)
    c.in-Some.ensures (c.in_ok-bytes.ensures.items_if_clones_equal (λ x y same. same) ∙ printed) c.replace.ensures
