use Rattle.std.proofs.Common.{◌≡◌, ◌++◌, drop, map}
use Rattle.properties_checking.specs.Private.Checking.{escape_finding}
use Rattle.properties_checking.proofs.check.push_escapes.Given as goal

abbrev pub invariant-loop-escape : goal.invariant-loop-escape
invariant-loop-escape l =
    l.findings.items ++ map escape_finding (drop l.escape-index l.escapes) ≡ l.fn.findings.items ++ map escape_finding l.escapes
