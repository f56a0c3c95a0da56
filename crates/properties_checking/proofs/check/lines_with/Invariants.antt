use Rattle.std.proofs.Common.{take}
use Rattle.properties_text.specs.Encoding.{encoding_of}
use Rattle.properties_checking.specs.{Private.Checking.otherwise_finding, Check.AreWithBytes}
use Rattle.properties_checking.proofs.check.lines_with.Given as goal

abbrev pub invariant-loop-byte : goal.invariant-loop-byte
invariant-loop-byte l = AreWithBytes otherwise_finding (encoding_of l.fn.encoding) l.source (take l.byte-index l.bytes) l.findings.items
