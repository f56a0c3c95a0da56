use Rattle.std.proofs.Common.{ap, ap₂, take, ◌∙◌, ◌++◌, append-nil}
use Rattle.std.specs.Str.{chars}
use Rattle.std.proofs.lemmas.List.{take_rest}
use Rattle.properties_items.proofs.Scalars.{chars-scalars}
use Rattle.properties_editing.proofs.EditedParts.{place-within}
use Rattle.properties_editing.proofs.ValuedParts.{found-alone, source-same, source-valued}
use Rattle.properties_editing.proofs.SourceParts.{source-removable}
use Rattle.properties_editing.proofs.plan.set_value.Goals as goal

pub text-pair-requires-clause-place : goal.text-pair-requires-clause-place
text-pair-requires-clause-place c = place-within c.requires.parts.stand (chars c.args.key.now) c.in-Some.place c.in-Some.ensures

pub text-pair-requires-clause-within : goal.text-pair-requires-clause-within
text-pair-requires-clause-within c =
    rw (take_rest c.args.source.now c.args.edited.now.opened.start) (source-removable (chars c.args.key.now) c.requires.parts.stand).1

pub new_value-requires-clause-alone : goal.new_value-requires-clause-alone
new_value-requires-clause-alone c =
    rw (c.text-pair.ensures, take_rest c.args.source.now c.args.edited.now.opened.start)
    (found-alone c.requires.parts.stand c.requires.parts.sound (chars c.args.key.now) (chars c.args.value.now) c.in-Some.place
    (chars-scalars c.args.key.now c.utf8.key) (chars-scalars c.args.value.now c.utf8.value) c.in-Some.ensures)

pub returns-in_default-2-clause-parts : goal.returns-in_default-2-clause-parts
returns-in_default-2-clause-parts c = λ r now named is p.
    let there = rw (c.in_default-2.is, c.text-pair.ensures, take_rest c.args.source.now c.args.edited.now.opened.start) at c.in_ok-new.ensures in
    source-same p.stand p.sound (chars c.args.key.now) (chars c.args.value.now) c.in-Some.place
    (chars-scalars c.args.key.now c.utf8.key) (chars-scalars c.args.value.now c.utf8.value) c.in-Some.ensures there.0 there.1 there.2

pub replace-requires-clause-place : goal.replace-requires-clause-place
replace-requires-clause-place c = place-within c.requires.parts.stand (chars c.args.key.now) c.in-Some.place c.in-Some.ensures

pub returns-clause-parts : goal.returns-clause-parts
returns-clause-parts c = λ r now named is p.
    let rest = take_rest c.args.source.now c.args.edited.now.opened.start in
    let given = rw (c.in-Some-2.is, c.text-pair.ensures, rest) at c.in_ok-new.ensures in
    let pair = rw rest at c.text-pair.ensures in
    let front = ap (take c.in-Some-2.new.front_size) pair ∙ given.front in
    let back = append-nil c.as_slice.result.now ∙ c.as_slice.ensures ∙ given.bytes_are in
    source-valued p.stand p.sound (chars c.args.key.now) (chars c.args.value.now) c.in-Some.place
    (chars-scalars c.args.key.now c.utf8.key) (chars-scalars c.args.value.now c.utf8.value) c.in-Some.ensures
    given.group c.in_ok-bytes.bytes c.in_ok-text.text c.replace.new.self given.is_group given.other (ap chars c.in_ok-text.ensures.ok)
    (c.in_ok-bytes.ensures ∙ ap₂ (λ x y. x ++ y) front back) c.replace.ensures
