use Rattle.std.proofs.Common.{◌∙◌}
use Rattle.byte_blocks.specs.Classes.{matches_table}
use Rattle.byte_blocks.proofs.Comparing.{table-bits, low-below}
use Rattle.byte_blocks.proofs.Marking.{marks-of_test, below-of_test}
use Rattle.byte_blocks.proofs.classes.table_marks.Goals as goal

pub swizzle : goal.swizzle
swizzle c = low-below c.args.block c.fits-block.0

pub from_bits-requires : goal.from_bits-requires
from_bits-requires c = below-of_test (matches_table c.args.table) c.args.block _ c.fits-block.0 (table-bits c.args.table c.args.block c.fits-block.0)

pub returns : goal.returns
returns c = c.from_bits.ensures ∙ marks-of_test (matches_table c.args.table) c.args.block _ c.fits-block.0 (table-bits c.args.table c.args.block c.fits-block.0)
