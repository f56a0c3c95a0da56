use Rattle.std.proofs.Common.{◌≡◌, drop}
use Rattle.properties_tables.specs.Private.Table.{hash_from}
use Rattle.properties_tables.proofs.key_table.slot_of.Given as goal

abbrev pub invariant-loop-byte : goal.invariant-loop-byte
invariant-loop-byte l = hash_from l.hash (drop l.byte-index l.byte-items) ≡ hash_from 0 l.byte-items
