use Rattle.std.proofs.Common.{arith}
use Rattle.byte_blocks.proofs.Marking.{zeros-front, front-most}
use Rattle.byte_blocks.proofs.marks.Marks.clear_front.Goals as goal

pub returns-clause-value : goal.returns-clause-value
returns-clause-value c = zeros-front c.self.inside.bits c.args.self c.self.view_is

pub returns-clause-within : goal.returns-clause-within
returns-clause-within c = omega (arith, zeros-front c.self.inside.bits c.args.self c.self.view_is, front-most c.self.inside.bits c.args.self c.self.view_is)
