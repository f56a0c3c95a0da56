use Rattle.byte_blocks.proofs.Marking.{marks-or}
use Rattle.byte_blocks.proofs.marks.Marks.or.Goals as goal

pub returns : goal.returns
returns c = marks-or c.self.inside.bits c.other.inside.bits c.args.self c.args.other c.self.view_is c.other.view_is
