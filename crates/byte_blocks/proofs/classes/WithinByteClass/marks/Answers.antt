use Rattle.std.proofs.Common.{◌&&◌, ◌∙◌, nat_le, arith}
use Rattle.byte_blocks.proofs.Comparing.{within-bits, none-within}
use Rattle.byte_blocks.proofs.Marking.{marks-of_test, below-of_test}
use Rattle.byte_blocks.proofs.classes.WithinByteClass.marks.Goals as goal

pub returns-then-this : goal.returns-then-this
returns-then-this g c = c.from_bits.ensures ∙ none-within g.row.FIRST g.row.LAST c.args.block (omega (arith, c.if-this.true)) c.fits-block.0 c.fits-block.1

pub from_bits-requires-2 : goal.from_bits-requires-2
from_bits-requires-2 g c =
    below-of_test (λ b. nat_le g.row.FIRST b && nat_le b g.row.LAST) c.args.block _ c.fits-block.0
    (within-bits g.row.FIRST g.row.LAST c.args.block (omega (arith, c.if-this.false)) (omega (arith, g.LAST.fits)) c.fits-block.0 c.fits-block.1)

pub returns : goal.returns
returns g c =
    c.from_bits-2.ensures
    ∙ marks-of_test (λ b. nat_le g.row.FIRST b && nat_le b g.row.LAST) c.args.block _ c.fits-block.0
    (within-bits g.row.FIRST g.row.LAST c.args.block (omega (arith, c.if-this.false)) (omega (arith, g.LAST.fits)) c.fits-block.0 c.fits-block.1)
