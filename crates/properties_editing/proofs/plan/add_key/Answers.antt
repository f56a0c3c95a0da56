use Rattle.std.proofs.Common.{ap, ap₂, ◌∙◌, ◌++◌, ◌&&◌}
use Rattle.std.specs.Prelude.{nat_le, not}
use Rattle.properties_format.specs.Computed.Body.{safe_ending}
use Rattle.properties_editing.specs.Private.BodyParts.{parts_bytes}
use Rattle.std.specs.Str.{chars}
use Rattle.std.proofs.lemmas.List.{take_rest}
use Rattle.properties_format.specs.Edited.{pair_bytes}
use Rattle.properties_items.proofs.Scalars.{chars-scalars}
use Rattle.properties_editing.specs.Private.Sources.{printed_repertoire}
use Rattle.properties_editing.proofs.AddedParts.{key-added}
use Rattle.properties_editing.proofs.SourceParts.{source-removable}
use Rattle.properties_editing.proofs.plan.add_key.Goals as goal

pub safe_ending-by-requires : goal.safe_ending-by-requires
safe_ending-by-requires c =
    rw (take_rest c.args.source.now c.args.edited.now.opened.start) (source-removable (chars c.args.key.now) c.requires.parts.parts.stand).1

pub append-requires-clause-within : goal.append-requires-clause-within
append-requires-clause-within c =
    rw (take_rest c.args.source.now c.args.edited.now.opened.start) (source-removable (chars c.args.key.now) c.requires.parts.parts.stand).1

pub returns-clause-parts : goal.returns-clause-parts
returns-clause-parts c =
    let key = chars c.args.key.now in
    let value = chars c.args.value.now in
    let old = c.args.edited.now in
    let rest = take_rest c.args.source.now old.opened.start in
    let first = c.is_first-first.ensures ∙ ap (λ n. not old.guarded && nat_le n old.empty) (c.len.ensures ∙ old.parts.parts.ok.0) in
    let printed = c.as_slice.ensures ∙ c.in_ok-print_new.ensures
    ∙ ap₂ (λ v b. v ++ pair_bytes (printed_repertoire old.opened) b key value) c.new-line.ensures first in
    key-added c.args.source.now old key value c.safe_ending-by.result c.in_ok-bytes.bytes c.append.new.self c.append.result
    (chars-scalars c.args.key.now c.utf8.key) (chars-scalars c.args.value.now c.utf8.value) c.requires.none
    (c.safe_ending-by.ensures ∙ ap (λ d. safe_ending (parts_bytes d old.parts.parts.items)) rest)
    (c.in_ok-bytes.ensures.items_if_clones_equal (λ x y same. same) ∙ printed) (rw rest at c.append.ensures)
