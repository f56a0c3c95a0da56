use Rattle.byte_blocks.proofs.Searching.{ends-joined}
use Rattle.byte_blocks.proofs.short.ends.Goals as goal

pub returns : goal.returns
returns c = ends-joined c.args.bytes.now c.requires
