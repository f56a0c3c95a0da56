use Rattle.std.proofs.Common.{◌-◌}
use Rattle.properties_text.specs.Encoding.{encoding_of}
use Rattle.properties_editing.proofs.BodyCuts.{HasPassed}
use Rattle.properties_editing.proofs.cuts.pass_characters.Given as goal

abbrev pub invariant-loop-count : goal.invariant-loop-count
invariant-loop-count l = HasPassed (encoding_of l.fn.encoding) l.bytes l.fn.wanted l.count l.size

abbrev pub decreases-loop-count : goal.decreases-loop-count
decreases-loop-count l = l.fn.wanted - l.count
