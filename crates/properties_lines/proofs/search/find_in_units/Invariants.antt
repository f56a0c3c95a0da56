use Rattle.std.proofs.Common.{◌-◌, length}
use Rattle.properties_text.specs.Encoding.{encoding_of}
use Rattle.properties_lines.specs.LineSearch.{IsSearched}
use Rattle.properties_lines.proofs.search.find_in_units.Given as goal

abbrev pub invariant-hits : goal.invariant-hits
invariant-hits l = IsSearched (encoding_of l.encoding) l.bytes l.searched

abbrev pub decreases-hits : goal.decreases-hits
decreases-hits l = length l.bytes - l.searched
