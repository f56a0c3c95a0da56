use Rattle.byte_blocks.proofs.Marking.{zero-clear, zeros-first}
use Rattle.byte_blocks.proofs.marks.Marks.first.Goals as goal

pub returns-then-self-eq0 : goal.returns-then-self-eq0
returns-then-self-eq0 c = zero-clear c.self.inside.bits c.args.self c.self.view_is c.self.invariant c.if-self-eq0.true

pub returns : goal.returns
returns c = zeros-first c.self.inside.bits c.args.self c.self.view_is c.self.invariant c.if-self-eq0.false
