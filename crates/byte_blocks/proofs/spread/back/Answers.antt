use Rattle.byte_blocks.proofs.Spreading.{back-pairs}
use Rattle.byte_blocks.proofs.spread.back.Goals as goal

pub returns : goal.returns
returns c = back-pairs c.args.block c.args.before c.fits-block.0 c.fits-before.0
