use Rattle.std.proofs.Common.{◌≡◌, ◌++◌, take}
use Rattle.std.specs.List.{flat_map}
use Rattle.properties_tools.specs.Private.Differing.{of_new}
use Rattle.properties_tables.specs.Private.Table.{rows_of}
use Rattle.properties_tools.proofs.propedit.diff.push_new.Given as goal

abbrev pub invariant-loop-row : goal.invariant-loop-row
invariant-loop-row g l =
    l.text.items ≡ l.fn.text.items ++ flat_map (g.F.DiffForm.printed l.form) (flat_map (of_new (rows_of l.olds)) (take l.row (rows_of l.news)))
