use Rattle.std.proofs.Common.{◌≡◌, ◌++◌, drop}
use Rattle.java_properties.specs.Editing.{edits_in}
use Rattle.properties_changing.specs.Private.Collected.{with_values}
use Rattle.properties_tables.specs.Values.{value_texts}
use Rattle.properties_changing.proofs.change.with_values.Given as goal

abbrev pub invariant-loop-place : goal.invariant-loop-place
invariant-loop-place l =
    with_values (edits_in l.edits) (value_texts l.values)
    ≡ edits_in l.some.items ++ with_values (edits_in (drop l.place l.edits)) (value_texts (drop l.place l.values))
