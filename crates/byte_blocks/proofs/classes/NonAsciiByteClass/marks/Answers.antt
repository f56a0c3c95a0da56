use Rattle.std.proofs.Common.{◌∙◌}
use Rattle.byte_blocks.specs.Classes.{is_non_ascii}
use Rattle.byte_blocks.proofs.Comparing.{at_least-bits}
use Rattle.byte_blocks.proofs.Marking.{marks-of_test, below-of_test}
use Rattle.byte_blocks.proofs.classes.NonAsciiByteClass.marks.Goals as goal

pub from_bits-requires : goal.from_bits-requires
from_bits-requires c = below-of_test is_non_ascii c.args.block _ c.fits-block.0 (at_least-bits 0x80 c.args.block c.fits-block.0)

pub returns : goal.returns
returns c = c.from_bits.ensures ∙ marks-of_test is_non_ascii c.args.block _ c.fits-block.0 (at_least-bits 0x80 c.args.block c.fits-block.0)
