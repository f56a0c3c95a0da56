use Rattle.std.proofs.Common.{take}
use Rattle.std.specs.Prelude.{map}
use Rattle.java_properties.specs.Maps.{characters}
use Rattle.properties_tables.specs.Private.Sought.{Seeks}
use Rattle.properties_tables.proofs.values.seek.Given as goal

abbrev pub invariant-loop-key : goal.invariant-loop-key
invariant-loop-key l = Seeks (map characters (take l.key-index l.keys)) l.sought
