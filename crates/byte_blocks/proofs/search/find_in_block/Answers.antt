use Rattle.std.proofs.Common.{take, drop}
use Rattle.byte_blocks.proofs.Marking.{first-byte}
use Rattle.byte_blocks.proofs.search.find_in_block.Goals as goal

pub returns : goal.returns
returns g c = first-byte g.C.ByteClass.holds (take 16 (drop c.args.at c.args.bytes.now)) c.marks.result c.first.result c.marks.ensures c.first.ensures
