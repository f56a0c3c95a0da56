use Rattle.std.proofs.Common.{◌≡◌, ◌++◌, drop, map}
use Rattle.properties_checking.specs.Private.Checking.{finding_of}
use Rattle.properties_checking.proofs.check.push_all.Given as goal

abbrev pub invariant-loop-number : goal.invariant-loop-number
invariant-loop-number l = l.findings.items ++ map (finding_of l.kind) (drop l.number-index l.numbers) ≡ l.fn.findings.items ++ map (finding_of l.kind) l.numbers
