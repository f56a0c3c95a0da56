use Rattle.std.proofs.Common.{◌&&◌, ◌++◌, ◌∙◌, ap, ap₂, drop}
use Rattle.std.specs.Prelude.{nat_le, not}
use Rattle.properties_format.specs.Computed.Valued.{separator_by}
use Rattle.properties_text.specs.Encoding.{encoding_of}
use Rattle.properties_items.proofs.Scalars.{chars-scalars}
use Rattle.properties_editing.specs.Private.BodyValues.{unended_pair}
use Rattle.properties_editing.specs.Private.Sources.{printed_repertoire}
use Rattle.properties_editing.proofs.AddedValues.{source-between, value-added}
use Rattle.properties_editing.proofs.LastPairs.{separator-good}
use Rattle.std.specs.Str.{chars}
use Rattle.std.proofs.lemmas.List.{take_rest}
use Rattle.properties_editing.proofs.Editing.{editable-unit}
use Rattle.properties_editing.proofs.LastParts.{source-empty, source-last}
use Rattle.properties_editing.proofs.SourceParts.{source-removable}
use Rattle.properties_editing.proofs.plan.add_value.Goals as goal

pub pairs_end-requires : goal.pairs_end-requires
pairs_end-requires c = c.requires.parts.parts.stand.bounds.1

pub last_pair-last-requires-clause-within : goal.last_pair-last-requires-clause-within
last_pair-last-requires-clause-within c = rw (take_rest c.args.source.now c.args.edited.now.opened.start) (source-last c.requires.parts.parts.stand).0

pub separator_of-requires-clause-unit : goal.separator_of-requires-clause-unit
separator_of-requires-clause-unit c = editable-unit _ c.requires.parts.parts.stand.in_force.editable

pub separator_of-requires-clause-last : goal.separator_of-requires-clause-last
separator_of-requires-clause-last c =
    rw (c.last_pair-last.ensures, take_rest c.args.source.now c.args.edited.now.opened.start) (source-last c.requires.parts.parts.stand).1

pub last_ending-ending-requires-clause-within : goal.last_ending-ending-requires-clause-within
last_ending-ending-requires-clause-within c =
    rw (take_rest c.args.source.now c.args.edited.now.opened.start) (source-removable (chars c.args.key.now) c.requires.parts.parts.stand).1

pub empty_start-requires : goal.empty_start-requires
empty_start-requires c = c.requires.parts.parts.stand.bounds.1

pub last_ending-ending-requires-clause-empty : goal.last_ending-ending-requires-clause-empty
last_ending-ending-requires-clause-empty c =
    rw (take_rest c.args.source.now c.args.edited.now.opened.start) (source-empty _ _ c.requires.parts.parts.stand c.empty_start.ensures)

pub append-requires-clause-within : goal.append-requires-clause-within
append-requires-clause-within c =
    rw (take_rest c.args.source.now c.args.edited.now.opened.start) (source-removable (chars c.args.key.now) c.requires.parts.parts.stand).1

pub print_new_pair-requires : goal.print_new_pair-requires
print_new_pair-requires c =
    let p = c.requires.parts.parts in
    let key = chars c.args.key.now in
    let rest = take_rest c.args.source.now c.args.edited.now.opened.start in
    let sep = rw (c.last_pair-last.ensures, rest) at c.in_ok-separator.ensures in
    separator-good (encoding_of c.args.edited.now.opened.encoding) (drop c.args.edited.now.opened.start c.requires.parts.now) key (chars c.as_str.result.now)
    (ap chars c.as_str.ensures.value ∙ sep ∙ ap (separator_by key) (source-between p.stand p.sound))

pub returns-clause-parts : goal.returns-clause-parts
returns-clause-parts c =
    let key = chars c.args.key.now in
    let value = chars c.args.value.now in
    let old = c.args.edited.now in
    let rest = take_rest c.args.source.now old.opened.start in
    let sep = rw (c.last_pair-last.ensures, rest) at c.in_ok-separator.ensures in
    let first = c.is_first-first.ensures ∙ ap (λ n. not old.guarded && nat_le n old.empty) (c.len.ensures ∙ old.parts.parts.ok.0) in
    let printed = c.as_slice.ensures ∙ c.in_ok-print_new_pair.ensures
    ∙ ap₂ (λ v b. v ++ unended_pair (printed_repertoire old.opened) b key (chars c.as_str.result.now) value) c.new-line.ensures first in
    value-added c.args.source.now old key value (chars c.as_str.result.now) c.last_ending-ending.result c.in_ok-bytes.bytes c.append.new.self c.append.result
    (chars-scalars c.args.key.now c.utf8.key) (chars-scalars c.args.value.now c.utf8.value) c.requires.none
    (rw rest at c.last_ending-ending.ensures) (ap chars c.as_str.ensures.value ∙ sep)
    (c.in_ok-bytes.ensures.items_if_clones_equal (λ x y same. same) ∙ printed) (rw rest at c.append.ensures)
