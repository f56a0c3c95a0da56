use Rattle.std.proofs.Common.{refl}
use Rattle.std.specs.Str.{chars}
use Rattle.properties_checking.proofs.LineFindings.{took-escape}
use Rattle.properties_checking.proofs.line_findings.LineFindingsTaker.malformed.Goals as goal

pub returns : goal.returns
returns c = took-escape c.args.self.now _ refl c.args.escape (chars c.args._line.now) c.in_ok-push.ensures.items refl refl
