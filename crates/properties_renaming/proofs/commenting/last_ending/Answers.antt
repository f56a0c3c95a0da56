use Rattle.std.proofs.Common.{arith, subst, sym}
use Rattle.properties_renaming.specs.Private.Commenting.{IsLastEndingOf}
use Rattle.properties_renaming.proofs.NewComments.{ends-feed, ends-nowhere, ends-return}
use Rattle.properties_renaming.proofs.commenting.last_ending.Goals as goal

pub returns-in-10 : goal.returns-in-10
returns-in-10 c =
    let inv = c.loop-end.invariant in
    subst (IsLastEndingOf c.args.body.now) (sym c.line_feed_after.ensures)
    (ends-feed c.args.body.now c.loop-end.end c.loop-end-test.true inv.within inv.plain c.in-10.is)

pub returns-in-13 : goal.returns-in-13
returns-in-13 c =
    let inv = c.loop-end.invariant in
    ends-return c.args.body.now c.loop-end.end c.loop-end-test.true inv.within inv.plain c.in-13.is

pub returns : goal.returns
returns c = ends-nowhere c.args.body.now c.loop-end.end (let none = c.loop-end-test.false in omega arith) c.loop-end.invariant.plain
