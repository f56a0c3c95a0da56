use Rattle.std.proofs.Common.{◌≡◌, length, arith}
use Rattle.std.proofs.lemmas.Bool.Decides.{nat_tests}
use Rattle.counted_io.proofs.Pieces.{pieces_left-zero, consumed}
use Rattle.counted_io.proofs.scripted_reader.ScriptedReaderRead.read.Goals as goal

pub returns-then-is_empty-clause-pieces : goal.returns-then-is_empty-clause-pieces
returns-then-is_empty-clause-pieces c =
    let empty : length c.args.buf.now ≡ 0 = grind (arith, nat_tests) in rw empty (pieces_left-zero c.args.self.now)

pub returns-clause-bytes : goal.returns-clause-bytes
returns-clause-bytes c = (
  rw (← c.find_piece.ensures.pieces) (consumed _ _ _ _ _ _ c.read_piece.ensures.count c.read_piece.ensures.buffer c.read_piece.ensures.pieces),
  λ none room. absurd (omega arith),
)
