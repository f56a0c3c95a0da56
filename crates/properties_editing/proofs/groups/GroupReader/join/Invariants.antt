use Rattle.std.proofs.Common.{length}
use Rattle.properties_lines.specs.Private.HeldLines.{held_lines_left}
use Rattle.properties_editing.specs.Private.BodyGroups.{IsBegun, ReadsGroup}
use Rattle.properties_editing.specs.declared.groups.GroupReader.{GroupReader}
use Rattle.properties_editing.proofs.groups.GroupReader.join.Given as goal

abbrev pub invariant-loop-joined : goal.invariant-loop-joined
invariant-loop-joined l = record {
  whole : (before : GroupReader) → ReadsGroup l.body before l.fn.group l.fn.self → ReadsGroup l.body before l.joined l.self;
  begun : IsBegun l.body l.self l.joined;
}

abbrev pub decreases-loop-joined : goal.decreases-loop-joined
decreases-loop-joined l = length (held_lines_left l.body l.self.scanner)
