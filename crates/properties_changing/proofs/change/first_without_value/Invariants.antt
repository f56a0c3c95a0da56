use Rattle.std.proofs.Common.{◌≡◌, drop}
use Rattle.std.specs.Prelude.{map}
use Rattle.java_properties.specs.Maps.{characters}
use Rattle.properties_changing.specs.Private.Collected.{first_without}
use Rattle.properties_tables.specs.Values.{value_texts}
use Rattle.properties_changing.proofs.change.first_without_value.Given as goal

abbrev pub invariant-loop-place : goal.invariant-loop-place
invariant-loop-place l =
    first_without (map characters l.keys) (value_texts l.values)
    ≡ first_without (drop l.place (map characters l.keys)) (value_texts (drop l.place l.values))
