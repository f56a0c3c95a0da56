use Rattle.std.proofs.Common.{length}
use Rattle.counted_io.specs.ReaderScript.{pieces_left, reader_tail}
use Rattle.counted_io.proofs.Pieces.{fails-by-tail}
use Rattle.counted_io.proofs.scripted_reader.ScriptedReaderCountedRead.read_counted.Goals as goal

pub returns-clause-gives : goal.returns-clause-gives
returns-clause-gives c = (
  fails-by-tail (pieces_left c.args.self.now) (reader_tail c.args.self.now) (length c.args.buf.now) c.read.result c.read.ensures.answer,
  c.read.ensures.tail,
  c.read.ensures.reads,
)
