use Rattle.std.proofs.Common.{◌≡◌, ◌++◌, drop}
use Rattle.std.specs.List.{flat_map}
use Rattle.properties_c.specs.Private.Results.{malformed_bytes}
use Rattle.properties_c.proofs.findings.push_escapes.Given as goal

abbrev pub invariant-loop-escape : goal.invariant-loop-escape
invariant-loop-escape l = l.bytes.items ++ flat_map malformed_bytes (drop l.escape-index l.escapes) ≡ l.fn.bytes.items ++ flat_map malformed_bytes l.escapes
