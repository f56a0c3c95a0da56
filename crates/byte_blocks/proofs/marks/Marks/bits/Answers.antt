use Rattle.byte_blocks.proofs.Marking.{number-of_marks, sixteen}
use Rattle.byte_blocks.proofs.marks.Marks.bits.Goals as goal

pub returns-clause-value : goal.returns-clause-value
returns-clause-value c = number-of_marks c.self.inside.bits c.args.self c.self.view_is c.self.invariant

pub returns-clause-sixteen : goal.returns-clause-sixteen
returns-clause-sixteen c = sixteen c.self.inside.bits c.args.self c.self.view_is
