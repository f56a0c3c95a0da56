use Rattle.std.proofs.Common.{◌≡◌, length}
use Rattle.properties_text.specs.Encoding.{encoding_of}
use Rattle.properties_tables.specs.Private.Flawed.{are_ascii, unit_at}
use Rattle.properties_tables.proofs.ill_formed.is_ascii_in_utf_16.Given as goal

abbrev pub invariant-loop-rest : goal.invariant-loop-rest
invariant-loop-rest l = are_ascii (unit_at (encoding_of l.encoding)) l.bytes ≡ are_ascii (unit_at (encoding_of l.encoding)) l.rest

abbrev pub decreases-loop-rest : goal.decreases-loop-rest
decreases-loop-rest l = length l.rest
