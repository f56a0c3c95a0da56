use Rattle.std.proofs.Common.{length}
use Rattle.properties_text.specs.Encoding.{encoding_of}
use Rattle.properties_editing.specs.Private.BodyGroups.{groups_left}
use Rattle.properties_editing.proofs.PartsRead.{HasParted}
use Rattle.properties_editing.proofs.parts.Parts.read.Given as goal

abbrev pub invariant-loop-parts : goal.invariant-loop-parts
invariant-loop-parts l = HasParted l.fn.comments (encoding_of l.fn.encoding) l.body l.fn.keys l.groups l.parts l.closing l.gap

abbrev pub decreases-loop-parts : goal.decreases-loop-parts
decreases-loop-parts l = length (groups_left l.body l.groups)
