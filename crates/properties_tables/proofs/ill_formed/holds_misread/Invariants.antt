use Rattle.std.proofs.Common.{◌≡◌, drop}
use Rattle.std.specs.List.{list_any}
use Rattle.properties_tables.specs.Lines.{is_read_otherwise}
use Rattle.properties_tables.proofs.ill_formed.holds_misread.Given as goal

abbrev pub invariant-loop-byte : goal.invariant-loop-byte
invariant-loop-byte l = list_any is_read_otherwise l.line ≡ list_any is_read_otherwise (drop l.byte-index l.line)
