use Rattle.std.proofs.Common.{map, take}
use Rattle.std.specs.Str.{chars}
use Rattle.properties_tools.specs.Propedit.Listing.{listed_pairs}
use Rattle.properties_tables.specs.Private.Table.{row_pair, rows_of}
use Rattle.properties_tools.proofs.PairObjects.{WroteMembers}
use Rattle.properties_tools.proofs.propedit.list_json.listed.Given as goal

abbrev pub invariant-loop-row : goal.invariant-loop-row
invariant-loop-row l = WroteMembers (chars l.prefix) (listed_pairs (chars l.prefix) (take l.row (map row_pair (rows_of l.table)))) l.writer l.status
