use Rattle.std.proofs.Common.{◌≡◌, length}
use Rattle.properties_text.specs.Encoding.{encoding_of}
use Rattle.properties_tables.specs.Private.Flawed.{holds_mark_unit, unit_at}
use Rattle.properties_tables.proofs.ill_formed.holds_mark_unit.Given as goal

abbrev pub invariant-loop-rest : goal.invariant-loop-rest
invariant-loop-rest l = holds_mark_unit (unit_at (encoding_of l.encoding)) l.bytes ≡ holds_mark_unit (unit_at (encoding_of l.encoding)) l.rest

abbrev pub decreases-loop-rest : goal.decreases-loop-rest
decreases-loop-rest l = length l.rest
