use Rattle.std.proofs.Common.{◌∙◌, ap, arith, sym}
use Rattle.std.proofs.lemmas.List.{length-set}
use Rattle.properties_format.specs.Computed.Items.{outcome_of}
use Rattle.properties_renaming.specs.Private.Commenting.{HasIndex}
use Rattle.properties_renaming.specs.Private.Keyed.{value_of}
use Rattle.properties_renaming.proofs.KeyedValues.{not-some}
use Rattle.properties_renaming.proofs.LastLines.{all-found, index-key, none-found, one-found, other-found}
use Rattle.properties_renaming.proofs.RenamedKeys.{none-left}
use Rattle.properties_renaming.proofs.commenting.last_lines.Goals as goal

pub loop-lines-init : goal.loop-lines-init
loop-lines-init c = none-found c.args.indices.now.entries c.args.count c.in_ok-lines.lines.items c.in_ok-view.ensures
    (c.in_ok-lines.ensures.items_if_clones_equal (λ y same. same)) (sym c.in_ok-lines.lines.ok.0 ∙ c.in_ok-lines.ensures.len)

pub index_mut-requires : goal.index_mut-requires
index_mut-requires c =
    let indices = c.args.indices.now.entries in
    let has : HasIndex indices c.in-Some-2.index c.next.new.self.group =
    ap (λ w. value_of indices (outcome_of w)) (sym c.line.ensures) ∙ sym c.in_ok-index.ensures ∙ c.in-Some-2.is in
    let k = index-key indices c.in-Some-2.index c.next.new.self.group has in
    let below = c.requires k.0 c.in-Some-2.index k.2 in
    let sizes = c.loop-lines.invariant.sizes in
    omega arith

pub loop-lines-preserved-in-Some-2 : goal.loop-lines-preserved-in-Some-2
loop-lines-preserved-in-Some-2 c =
    let indices = c.args.indices.now.entries in
    let takes = rw c.in-Some.is at c.in_ok-group.ensures.gives in
    let has : HasIndex indices c.in-Some-2.index c.next.new.self.group =
    ap (λ w. value_of indices (outcome_of w)) (sym c.line.ensures) ∙ sym c.in_ok-index.ensures ∙ c.in-Some-2.is in
    let k = index-key indices c.in-Some-2.index c.next.new.self.group has in
    one-found indices c.args.count c.in-Some.group c.in-Some-2.index (c.requires k.0 c.in-Some-2.index k.2) c.loop-lines.invariant takes has
    (length-set c.loop-lines.lines.items c.in-Some-2.index c.in-Some.group.line_number)

pub loop-lines-preserved : goal.loop-lines-preserved
loop-lines-preserved c =
    let indices = c.args.indices.now.entries in
    let takes = rw c.in-Some.is at c.in_ok-group.ensures.gives in
    let none = ap (λ w. value_of indices (outcome_of w)) (sym c.line.ensures) ∙ sym c.in_ok-index.ensures ∙ not-some c.in_ok-index.field-0 c.in_default-2.not-Some in
    other-found indices c.args.count c.in-Some.group c.loop-lines.invariant takes none

pub returns : goal.returns
returns c =
    let none = none-left c.loop-lines.view c.next.new.self c.in_ok-group.field-0 c.in_ok-group.ensures.gives c.in_default.not-Some in
    all-found c.args.indices.now.entries c.args.count c.in_ok-view.ensures c.loop-lines.invariant none
