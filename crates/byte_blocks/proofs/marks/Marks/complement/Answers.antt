use Rattle.byte_blocks.proofs.Marking.{marks-complement}
use Rattle.byte_blocks.proofs.marks.Marks.complement.Goals as goal

pub returns : goal.returns
returns c = marks-complement c.self.inside.bits c.args.self c.self.view_is c.self.invariant
