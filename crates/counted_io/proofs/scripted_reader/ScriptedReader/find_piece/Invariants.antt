use Rattle.std.proofs.Common.{◌≡◌, ◌-◌, length}
use Rattle.counted_io.specs.ReaderScript.{pieces_left}
use Rattle.counted_io.proofs.scripted_reader.ScriptedReader.find_piece.Given as goal

abbrev pub invariant-loop-self : goal.invariant-loop-self
invariant-loop-self l = record {
  pieces : pieces_left l.self ≡ pieces_left l.fn.self;
  same : l.self ≡ record l.fn.self { index = l.self.index; place = l.self.place };
}

abbrev pub decreases-loop-self : goal.decreases-loop-self
decreases-loop-self l = length l.initial.self.pieces.items - l.self.index
