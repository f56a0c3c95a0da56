use Rattle.std.proofs.Common.{◌≡◌, false, length}
use Rattle.properties_text.specs.Encoding.{encoding_of}
use Rattle.properties_tables.specs.Private.Flawed.{are_paired, unit_at}
use Rattle.properties_tables.proofs.ill_formed.is_utf_16.Given as goal

abbrev pub invariant-loop-rest : goal.invariant-loop-rest
invariant-loop-rest l = are_paired (unit_at (encoding_of l.encoding)) false l.bytes ≡ are_paired (unit_at (encoding_of l.encoding)) l.after_high l.rest

abbrev pub decreases-loop-rest : goal.decreases-loop-rest
decreases-loop-rest l = length l.rest
