use Rattle.byte_blocks.proofs.Marking.{zero-is_clear}
use Rattle.byte_blocks.proofs.marks.Marks.is_clear.Goals as goal

pub returns : goal.returns
returns c = zero-is_clear c.self.inside.bits c.args.self c.self.view_is c.self.invariant
