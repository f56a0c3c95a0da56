use Rattle.std.proofs.Common.{◌≡◌, take}
use Rattle.std.specs.Prelude.{map}
use Rattle.java_properties.specs.Maps.{characters}
use Rattle.properties_tables.specs.{Values.value_texts, Private.Sought.found_value}
use Rattle.properties_tables.proofs.values.Sought.values_of.Given as goal

abbrev pub invariant-loop-key : goal.invariant-loop-key
invariant-loop-key l = value_texts l.values.items ≡ map (found_value l.fn.self) (map characters (take l.key-index l.keys))
