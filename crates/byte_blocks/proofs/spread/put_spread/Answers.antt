use Rattle.std.proofs.Common.{◌+◌, ◌++◌, take, refl, sym, ap, ◌∙◌, arith}
use Rattle.std.proofs.lemmas.List.{length-take-le}
use Rattle.byte_blocks.proofs.Rows.{stored}
use Rattle.byte_blocks.proofs.Spreading.{spread-clear, whole-written}
use Rattle.byte_blocks.proofs.spread.put_spread.Goals as goal

pub returns-then-is_clear_before-clause-written : goal.returns-then-is_clear_before-clause-written
returns-then-is_clear_before-clause-written c =
    let clear = c.is_clear_before.ensures.0 c.if-is_clear_before.true in
    stored c.args.at c.args.kept (c.args.at + c.args.kept) c.args.out.now c.args.block refl
    (omega (arith, c.requires.kept, c.fits-block.0)) (omega (arith, c.requires.room, c.fits-block.0))
    ∙ ap (λ v. take c.args.at c.args.out.now ++ v)
    (sym (spread-clear c.args.kept c.args.marks c.args.before c.args.block (omega (arith, clear, c.requires.kept))
    (omega (arith, c.requires.kept, c.fits-before.0)) (omega (arith, c.requires.kept, c.fits-block.0))))

pub returns-clause-written : goal.returns-clause-written
returns-clause-written c =
    let first = c.put_eight-middle in
    let last = c.put_eight in
    whole-written c.args.marks c.args.block c.args.before c.bits.ensures.sixteen c.fits-block.0 c.fits-before.0
    (take c.args.at c.args.out.now) first.new.out last.new.out c.front.result c.back.result
    c.args.at first.result last.result c.args.kept c.place_after.result c.bits.result c.bits-2.result c.bits-3.result
    c.requires.kept (length-take-le c.args.at c.args.out.now (omega arith)) c.bits.ensures.value c.bits-2.ensures.value c.bits-3.ensures.value
    c.front.ensures c.back.ensures first.ensures.written last.ensures.written c.place_after.ensures.value
