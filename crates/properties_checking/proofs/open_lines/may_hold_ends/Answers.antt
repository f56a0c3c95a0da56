use Rattle.properties_checking.proofs.OpenLines.{sees-ends}
use Rattle.properties_checking.proofs.open_lines.may_hold_ends.Goals as goal

pub returns-in-WINDOWS_1252 : goal.returns-in-WINDOWS_1252
returns-in-WINDOWS_1252 c = sees-ends c.args.encoding c.args.body.now c.may_end.result c.in-WINDOWS_1252.is c.may_end.ensures
