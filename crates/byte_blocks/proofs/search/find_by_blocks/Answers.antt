use Rattle.std.proofs.Common.{◌-◌, length, arith}
use Rattle.byte_blocks.proofs.Searching.{none-in_block, first-in_block}
use Rattle.byte_blocks.proofs.search.find_by_blocks.Goals as goal

pub returns-in-Some : goal.returns-in-Some
returns-in-Some g c =
    let at = c.loop-at.at in
    first-in_block g.C.ByteClass.holds c.args.bytes.now 0 at 16 at c.in-Some.first (omega arith)
    (omega (arith, c.loop-at-test.true, c.requires)) (omega arith) c.loop-at.invariant.none c.in-Some.ensures

pub loop-at-preserved : goal.loop-at-preserved
loop-at-preserved g c =
    let at = c.loop-at.at in
    record {
      within = omega (arith, c.loop-at-test.true, c.requires);
      none = none-in_block g.C.ByteClass.holds c.args.bytes.now 0 at 16 at (omega (arith, c.loop-at-test.true, c.requires)) (omega arith) c.loop-at.invariant.none c.in_default.ensures;
    }

pub returns-in_err-first : goal.returns-in_err-first
returns-in_err-first g c =
    let bytes = c.args.bytes.now in
    let all = none-in_block g.C.ByteClass.holds bytes 0 (length bytes - 16) 16 c.loop-at.at
    (omega (arith, c.requires)) (omega (arith, c.loop-at-test.false)) c.loop-at.invariant.none
    c.in_err-first.ensures in
    rw c.from_residual.ensures (λ k i j passes. all k i (omega (arith, j, c.requires)) passes)

pub returns : goal.returns
returns g c =
    let bytes = c.args.bytes.now in
    first-in_block g.C.ByteClass.holds bytes 0 (length bytes - 16) 16 c.loop-at.at c.in_ok-first.first (omega arith)
    (omega (arith, c.requires)) (omega (arith, c.loop-at-test.false)) c.loop-at.invariant.none
    c.in_ok-first.ensures
