use Rattle.std.proofs.Common.{arith}
use Rattle.java_properties.proofs.ReadBack.Written.{line_of-own}
use Rattle.java_properties.proofs.laws.settings_are_good.Goals as goal

pub returns : goal.returns
returns g c = grind (arith, line_of-own)
