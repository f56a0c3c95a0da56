use Rattle.std.proofs.Common.{◌≡◌, take}
use Rattle.std.specs.{List.flat_map, Str.chars}
use Rattle.properties_tools.specs.{Propedit.Listing.listed_keys, Propedit.Texts.ended}
use Rattle.properties_tables.specs.Private.Table.{place_keys, places_in}
use Rattle.properties_tools.proofs.propedit.list.listed.Given as goal

abbrev pub invariant-loop-row : goal.invariant-loop-row
invariant-loop-row l = l.text.items ≡ flat_map (ended l.end) (listed_keys (chars l.prefix) (take l.row (place_keys (places_in l.keys))))
