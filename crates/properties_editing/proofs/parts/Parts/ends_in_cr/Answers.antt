use Rattle.std.proofs.Common.{◌≡◌, Some, None, take, ap, sym, ◌∙◌, arith}
use Rattle.properties_editing.specs.Private.PartEndings.{last_some, part_cr_end}
use Rattle.properties_editing.proofs.PartEndings.{ends-found, ends-none, step-back}
use Rattle.properties_editing.proofs.parts.Parts.ends_in_cr.Goals as goal

pub returns-in-Some : goal.returns-in-Some
returns-in-Some c =
    let ps = c.args.self.now.parts.items in
    let f = part_cr_end c.args.body.now in
    let inv = c.loop-place.invariant in
    let read = ap f (sym c.index.ensures) ∙ sym c.part_ends_in_cr.ensures ∙ c.in-Some.is in
    ends-found c.args.body.now (take c.args.end ps) c.in-Some.is_cr
    (inv.1 ∙ step-back f ps c.loop-place.place c.index.result.now (Some c.in-Some.is_cr) c.loop-place-test.true inv.0 read)

pub loop-place-preserved : goal.loop-place-preserved
loop-place-preserved c =
    let ps = c.args.self.now.parts.items in
    let f = part_cr_end c.args.body.now in
    let inv = c.loop-place.invariant in
    let read = ap f (sym c.index.ensures) ∙ sym c.part_ends_in_cr.ensures ∙ c.in_default.is in
    ((omega arith), inv.1 ∙ step-back f ps c.loop-place.place c.index.result.now None c.loop-place-test.true inv.0 read)

pub returns : goal.returns
returns c =
    let ps = c.args.self.now.parts.items in
    let zero : c.loop-place.place ≡ 0 = omega arith in
    ends-none c.args.body.now (take c.args.end ps)
    (c.loop-place.invariant.1 ∙ ap (λ n. last_some (part_cr_end c.args.body.now) (take n ps)) zero)
