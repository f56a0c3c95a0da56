use Rattle.std.proofs.Common.{◌∙◌}
use Rattle.properties_tables.proofs.NonAscii.{one-byte-told, utf_16-told}
use Rattle.properties_tables.proofs.ill_formed.is_ascii.Goals as goal

pub returns-in-WINDOWS_1252 : goal.returns-in-WINDOWS_1252
returns-in-WINDOWS_1252 c = one-byte-told c.args.encoding c.args.line.now c.requires c.in-WINDOWS_1252.is

pub returns-in_default : goal.returns-in_default
returns-in_default c = c.is_ascii_in_utf_16.ensures ∙ utf_16-told c.args.encoding _ c.in_default.not-WINDOWS_1252 c.in_default.not-UTF_8
