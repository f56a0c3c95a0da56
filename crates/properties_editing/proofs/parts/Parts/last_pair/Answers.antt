use Rattle.std.proofs.Common.{◌<◌, ◌-◌, Some, None, length, ap, sym, subst, ◌∙◌, arith}
use Rattle.properties_editing.specs.Private.PartEndings.{IsPartWithin, part_pair}
use Rattle.properties_editing.proofs.PartBounds.{none-behind}
use Rattle.properties_editing.proofs.PartEndings.{part_within, step-back}
use Rattle.properties_editing.proofs.parts.Parts.last_pair.Goals as goal

pub last_pair_of-requires : goal.last_pair_of-requires
last_pair_of-requires c =
    let ps = c.args.self.now.parts.items in
    let inside : c.loop-place.place - 1 < length ps = let inv = c.loop-place.invariant in omega arith in
    subst (IsPartWithin c.args.body.now) (sym c.index.ensures) (part_within c.args.body.now ps (c.loop-place.place - 1) c.index.result.now c.requires.within inside)

pub loop-place-init : goal.loop-place-init
loop-place-init c = (c.requires.end.0, none-behind c.args.body.now c.args.end c.args.self.now.parts.items c.requires.end.0 c.requires.end.1)

pub returns-in-Some : goal.returns-in-Some
returns-in-Some c =
    let ps = c.args.self.now.parts.items in
    let f = part_pair c.args.body.now in
    let inv = c.loop-place.invariant in
    let read = ap f (sym c.index.ensures) ∙ sym c.in-Some.ensures in
    sym (inv.1 ∙ step-back f ps c.loop-place.place c.index.result.now (Some c.in-Some.pair.now) c.loop-place-test.true inv.0 read)

pub loop-place-preserved : goal.loop-place-preserved
loop-place-preserved c =
    let ps = c.args.self.now.parts.items in
    let f = part_pair c.args.body.now in
    let inv = c.loop-place.invariant in
    let read = ap f (sym c.index.ensures) ∙ sym c.in_default.ensures in
    ((omega arith), inv.1 ∙ step-back f ps c.loop-place.place c.index.result.now None c.loop-place-test.true inv.0 read)
