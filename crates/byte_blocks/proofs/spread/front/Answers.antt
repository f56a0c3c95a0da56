use Rattle.byte_blocks.proofs.Spreading.{front-pairs}
use Rattle.byte_blocks.proofs.spread.front.Goals as goal

pub returns : goal.returns
returns c = front-pairs c.args.block c.args.before c.fits-block.0 c.fits-before.0
