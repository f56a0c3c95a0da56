use Rattle.std.proofs.Common.{take}
use Rattle.properties_tools.specs.Private.Lacking.{lacking, AddsLacking}
use Rattle.properties_tables.specs.Private.Table.{place_keys, table_places}
use Rattle.properties_tools.proofs.propedit.against.push_lacking.Given as goal

abbrev pub invariant-loop-row : goal.invariant-loop-row
invariant-loop-row l =
    let others = place_keys (table_places l.sides.others.now) in
    AddsLacking l.sides.lacking l.sides (lacking l.sides.are_well_formed others (take l.row (table_places l.sides.keys.now))) l.fn.text l.text
