use Rattle.std.proofs.Common.{◌≡◌, map, take}
use Rattle.std.specs.{List.flat_map, Str.chars}
use Rattle.properties_tools.specs.Propedit.Listing.{ended_pair, listed_pairs}
use Rattle.properties_tables.specs.Private.Table.{row_pair, rows_of}
use Rattle.properties_tools.proofs.propedit.pairs.listed.Given as goal

abbrev pub invariant-loop-row : goal.invariant-loop-row
invariant-loop-row l = l.text.items ≡ flat_map (ended_pair l.end) (listed_pairs (chars l.prefix) (take l.row (map row_pair (rows_of l.fn.table))))
