use Rattle.std.proofs.Common.{refl, arith}
use Rattle.std.specs.Str.{chars}
use Rattle.java_properties.proofs.writer.settings.Settings.kv_separator.Goals as goal

pub returns-in-None-clause-value : goal.returns-in-None-clause-value
unfolding chars
returns-in-None-clause-value c = grind arith

pub returns-in-None-clause-good : goal.returns-in-None-clause-good
unfolding chars
returns-in-None-clause-good c = refl
