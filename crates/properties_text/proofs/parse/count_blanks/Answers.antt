use Rattle.std.proofs.Common.{◌+◌, ◌∙◌, arith}
use Rattle.byte_blocks.proofs.Searching.{none-in_block, first-in_block}
use Rattle.properties_text.proofs.BlankFronts.{is_no_blank, past-blanks, up-to-first}
use Rattle.properties_text.proofs.parse.count_blanks.Goals as goal

pub returns-in-Some-clause-rest : goal.returns-in-Some-clause-rest
returns-in-Some-clause-rest c =
    let at = c.loop-at.at in
    up-to-first c.args.text.now (at + c.in-Some.first)
    (first-in_block is_no_blank c.args.text.now 0 at 16 at c.in-Some.first (omega arith)
    (omega (arith, c.loop-at-test.true, c.loop-at.invariant.within)) (omega arith) c.loop-at.invariant.blank
    c.in-Some.ensures)

pub loop-at-preserved : goal.loop-at-preserved
loop-at-preserved c =
    let at = c.loop-at.at in
    record {
      within = omega (arith, c.loop-at-test.true);
      blank = none-in_block is_no_blank c.args.text.now 0 at 16 at (omega (arith, c.loop-at-test.true, c.loop-at.invariant.within)) (omega arith)
          c.loop-at.invariant.blank c.in_default.ensures;
    }

pub returns-clause-rest : goal.returns-clause-rest
returns-clause-rest c = c.past_few_blanks.ensures.rest ∙ past-blanks c.args.text.now c.loop-at.at c.loop-at.invariant.blank
