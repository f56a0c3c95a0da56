use Rattle.std.proofs.Common.{arith}
use Rattle.byte_blocks.proofs.Rows.{ones-first}
use Rattle.byte_blocks.proofs.spread.place_after.Goals as goal

pub overflow_add-result-2 : goal.overflow_add-result-2
overflow_add-result-2 c = let ones = ones-first c.args.bits c.args.count c.requires.count in record { fits = omega arith }

pub returns-clause-within : goal.returns-clause-within
returns-clause-within c = omega (arith, ones-first c.args.bits c.args.count c.requires.count)
