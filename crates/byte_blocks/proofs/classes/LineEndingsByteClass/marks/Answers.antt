use Rattle.std.proofs.Common.{◌∙◌, refl}
use Rattle.byte_blocks.specs.Classes.{is_ending_byte}
use Rattle.byte_blocks.proofs.Comparing.{table-is}
use Rattle.byte_blocks.specs.declared.classes.TheConstants.{LINE_ENDS}
use Rattle.byte_blocks.proofs.classes.LineEndingsByteClass.marks.Goals as goal

pub returns : goal.returns
returns c = c.table_marks.ensures ∙ table-is LINE_ENDS is_ending_byte c.args.block refl c.fits-block.1
