use Rattle.std.proofs.Common.{◌≡◌, map, take}
use Rattle.java_properties.specs.Editing.{edits_in}
use Rattle.properties_tables.specs.Private.Table.{rows_of}
use Rattle.properties_tools.specs.Propedit.Merge.{set_of}
use Rattle.properties_tools.proofs.propedit.merge.edits_of_rows.Given as goal

abbrev pub invariant-loop-row : goal.invariant-loop-row
invariant-loop-row l = edits_in l.edits.items ≡ map set_of (take l.row (rows_of l.table))
