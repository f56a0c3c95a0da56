use Rattle.std.proofs.Common.{◌∙◌, ap, arith, inl, inr, length, refl, sym}
use Rattle.std.specs.Prelude.{is_some, map}
use Rattle.properties_format.specs.Computed.Items.{outcome_of}
use Rattle.properties_items.specs.Texts.{characters}
use Rattle.properties_renaming.specs.Private.Keyed.{value_of}
use Rattle.properties_renaming.proofs.CommentedKeys.{all-made, headed-none, listed-none, listed-one, next-run, none-made, removed-all, section-kept, section-left_out, start-ordered}
use Rattle.properties_renaming.proofs.comments.without_keys.Goals as goal

pub loop-copied-init : goal.loop-copied-init
loop-copied-init c = none-made c.in_ok-view.ensures c.in_ok-copied.ensures

pub replace-requires-clause-ordered : goal.replace-requires-clause-ordered
replace-requires-clause-ordered c = start-ordered (rw c.in-Some.is at c.in_ok-headed.ensures.gives)

pub replace-requires-clause-within : goal.replace-requires-clause-within
replace-requires-clause-within c =
    let takes = rw c.in-Some.is at c.in_ok-headed.ensures.gives in
    let within = (next-run c.in-Some.headed c.loop-copied.invariant takes).within in
    let next = takes.is_group.next in
    let same = ap length c.loop-copied.invariant.source_is in
    omega arith

pub loop-copied-preserved-in_ok-replace : goal.loop-copied-preserved-in_ok-replace
loop-copied-preserved-in_ok-replace c =
    let takes = rw c.in-Some.is at c.in_ok-headed.ensures.gives in
    let listed = c.in_ok-listed.listed.entries in
    let is = ap (λ w. is_some (value_of listed (outcome_of w))) (sym c.line.ensures) ∙ ap is_some (sym c.in_ok-value_of.ensures)
    ∙ sym c.is_some.ensures ∙ c.if-is_some.true in
    let has = listed-one (map characters c.args.keys.now) listed c.next_headed.new.view.group c.in_ok-listed.ensures is in
    section-left_out c.in-Some.headed c.loop-copied.invariant takes c.in_ok-replace.ensures
    (inl (has, (takes.above, takes.comment, takes.is_comment, refl)))

pub loop-copied-preserved : goal.loop-copied-preserved
loop-copied-preserved c =
    let takes = rw c.in-Some.is at c.in_ok-headed.ensures.gives in
    let listed = c.in_ok-listed.listed.entries in
    let is = ap (λ w. is_some (value_of listed (outcome_of w))) (sym c.line.ensures) ∙ ap is_some (sym c.in_ok-value_of.ensures)
    ∙ sym c.is_some.ensures ∙ c.if-is_some.false in
    let none = listed-none (map characters c.args.keys.now) listed c.next_headed.new.view.group c.in_ok-listed.ensures is in
    section-kept c.in-Some.headed c.loop-copied.invariant takes (inr (none, refl))

pub returns : goal.returns
returns c =
    let none = headed-none c.loop-copied.view c.next_headed.new.view c.in_ok-headed.field-0 c.in_ok-headed.ensures.gives c.in_default.not-Some in
    removed-all (all-made c.in_ok-others.others.items c.in_ok-view.ensures c.loop-copied.invariant none c.in_ok-others.ensures) c.in_ok-bytes.ensures
