use Rattle.std.proofs.Common.{◌∙◌}
use Rattle.properties_tables.proofs.FlawedLines.{longest-is_utf8, utf_16-paired}
use Rattle.properties_tables.proofs.ill_formed.is_well_formed.Goals as goal

pub returns-else-line : goal.returns-else-line
returns-else-line c = rw c.in-UTF_8.is (longest-is_utf8 _ c.well_formed_length.result c.well_formed_length.ensures)

pub returns-in_default : goal.returns-in_default
returns-in_default c = c.is_utf_16.ensures ∙ utf_16-paired c.args.encoding _ c.in_default.not-WINDOWS_1252 c.in_default.not-UTF_8
