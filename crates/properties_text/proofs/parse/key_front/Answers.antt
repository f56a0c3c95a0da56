use Rattle.std.proofs.Common.{◌+◌, inr, arith}
use Rattle.byte_blocks.proofs.Searching.{none-in_block, first-in_block}
use Rattle.properties_text.specs.Parsing.{may_end}
use Rattle.properties_text.proofs.KeyFronts.{plain-front}
use Rattle.properties_text.proofs.parse.key_front.Goals as goal

pub returns-in-Some-clause-plain : goal.returns-in-Some-clause-plain
returns-in-Some-clause-plain c =
    let at = c.loop-at.at in
    let found = first-in_block may_end c.args.text.now 0 at 16 at c.in-Some.first (omega arith)
    (omega (arith, c.loop-at-test.true, c.loop-at.invariant.within)) (omega arith) c.loop-at.invariant.none
    c.in-Some.ensures in
    plain-front c.args.text.now (at + c.in-Some.first) found.0.before

pub loop-at-preserved : goal.loop-at-preserved
loop-at-preserved c =
    let at = c.loop-at.at in
    record {
      within = omega (arith, c.loop-at-test.true);
      none = none-in_block may_end c.args.text.now 0 at 16 at (omega (arith, c.loop-at-test.true, c.loop-at.invariant.within)) (omega arith)
          c.loop-at.invariant.none c.in_default.ensures;
    }

pub returns-clause-plain : goal.returns-clause-plain
returns-clause-plain c = plain-front c.args.text.now c.loop-at.at c.loop-at.invariant.none

pub returns-in-Some-clause-far : goal.returns-in-Some-clause-far
returns-in-Some-clause-far c =
    let at = c.loop-at.at in
    inr (first-in_block may_end c.args.text.now 0 at 16 at c.in-Some.first (omega arith)
    (omega (arith, c.loop-at-test.true, c.loop-at.invariant.within)) (omega arith) c.loop-at.invariant.none
    c.in-Some.ensures).1
