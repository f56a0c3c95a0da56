use Rattle.std.proofs.Common.{◌%◌, arith}
use Rattle.std.proofs.Math.Nat.{mod-lt}
use Rattle.std.proofs.lemmas.Nat.{one_shl}
use Rattle.properties_editing.proofs.parts.named_keys.length_bit.Goals as goal

pub returns : goal.returns
returns c = one_shl (c.args.size % 64) 64 (mod-lt c.args.size (omega arith))
