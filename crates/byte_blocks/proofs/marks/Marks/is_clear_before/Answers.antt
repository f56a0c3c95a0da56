use Rattle.byte_blocks.proofs.Marking.{zeros-clear_before}
use Rattle.byte_blocks.proofs.marks.Marks.is_clear_before.Goals as goal

pub returns : goal.returns
returns c = zeros-clear_before c.self.inside.bits c.args.count c.args.self c.self.view_is c.self.invariant c.requires
