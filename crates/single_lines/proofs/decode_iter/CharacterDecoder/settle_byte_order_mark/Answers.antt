use Rattle.single_lines.proofs.DecodeIter.{decodes-more}
use Rattle.single_lines.proofs.decode_iter.CharacterDecoder.settle_byte_order_mark.Goals as goal

pub loop-self-preserved : goal.loop-self-preserved
loop-self-preserved g c =
    let held = c.loop-self.invariant in
    record { decodes = decodes-more held.decodes c.read.ensures.decodes; undecided = cc; same_reader = cc }

pub returns-then-not-read-clause-decodes : goal.returns-then-not-read-clause-decodes
returns-then-not-read-clause-decodes g c = decodes-more c.loop-self.invariant.decodes c.read.ensures.decodes
