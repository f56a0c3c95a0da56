use Rattle.std.proofs.Common.{◌∙◌}
use Rattle.properties_tables.proofs.Marks.{utf_16-marks}
use Rattle.properties_tables.proofs.ill_formed.holds_mark_in.Goals as goal

pub returns-in_default : goal.returns-in_default
returns-in_default c = c.holds_mark_unit.ensures ∙ utf_16-marks c.args.encoding _ c.in_default.not-WINDOWS_1252 c.in_default.not-UTF_8
