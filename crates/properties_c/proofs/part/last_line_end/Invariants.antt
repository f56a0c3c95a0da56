use Rattle.properties_text.specs.Encoding.{encoding_of}
use Rattle.properties_c.proofs.PartedFronts.{IsSearchedTo}
use Rattle.properties_c.proofs.part.last_line_end.Given as goal

abbrev pub invariant-loop-encoding : goal.invariant-loop-encoding
invariant-loop-encoding l = IsSearchedTo (encoding_of l.encoding) l.body l.at

abbrev pub decreases-loop-encoding : goal.decreases-loop-encoding
decreases-loop-encoding l = l.at
