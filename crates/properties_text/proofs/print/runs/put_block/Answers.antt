use Rattle.std.proofs.Common.{arith}
use Rattle.properties_text.proofs.PrintedTexts.Runs.{block-run, block-stops}
use Rattle.properties_text.proofs.print.runs.put_block.Goals as goal

pub returns-clause-run : goal.returns-clause-run
returns-clause-run g c =
    block-run c.args.part.bytes.now c.args.v c.args.part.size c.min-kept.result c.args.part.within c.requires.from c.requires.controls c.fits-v.0
    c.requires.block
    c.marks.ensures (omega (arith, c.min-kept.ensures, c.clear_front.ensures.value)) (omega (arith, c.min-kept.ensures, c.clear_front.ensures.within))
    (omega (arith, c.min-kept.ensures)) c.put_with_backslashes-end.ensures.within c.put_with_backslashes-end.ensures.printed

pub returns-clause-stops : goal.returns-clause-stops
returns-clause-stops g c = λ few within.
    block-stops g.Stops.ByteClass.holds c.args.part.bytes.now c.args.v c.marks.result c.args.part.size c.args.so_far.read c.min-kept.result
    c.args.part.within c.fits-v.0 c.requires.block c.marks.ensures (omega (arith, c.min-kept.ensures, c.clear_front.ensures.value, few, within))
    (omega (arith, few))
    within
