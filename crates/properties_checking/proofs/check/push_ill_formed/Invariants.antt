use Rattle.std.proofs.Common.{◌≡◌, ◌++◌, drop}
use Rattle.properties_checking.specs.{Check.ill_formed_of, Private.Checking.ill_formed_finding}
use Rattle.properties_checking.proofs.check.push_ill_formed.Given as goal

abbrev pub invariant-loop-number : goal.invariant-loop-number
invariant-loop-number l =
    l.findings.items ++ ill_formed_of ill_formed_finding l.words (drop l.number-index l.numbers) ≡ l.fn.findings.items ++ ill_formed_of ill_formed_finding l.fn.first l.numbers
