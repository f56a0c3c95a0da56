use Rattle.std.proofs.Common.{ap}
use Rattle.single_lines.specs.DecodeIter.{undecoded}
use Rattle.single_lines.proofs.DecodeIter.{decodes-more, decodes-given, ends-end, ends-fault}
use Rattle.single_lines.proofs.decode_iter.CharacterDecoder.next_character.Goals as goal

pub returns-in-Some-clause-decodes : goal.returns-in-Some-clause-decodes
returns-in-Some-clause-decodes g c =
    decodes-more (decodes-more c.decide.ensures.decodes c.settle.ensures.decodes) (decodes-given c.settle.new.reader _ _ _ c.in-Some.ensures)

pub returns-in_err-error-clause-decodes : goal.returns-in_err-error-clause-decodes
returns-in_err-error-clause-decodes g c =
    let read = decodes-more c.decide.ensures.decodes c.settle.ensures.decodes in
    rw c.from_residual.ensures
    (ends-end _ read c.settle.ensures.settled c.in_default.ensures (ap undecoded c.take_fault.ensures.after) c.in_err-error.ensures.fault)

pub returns-clause-decodes : goal.returns-clause-decodes
returns-clause-decodes g c =
    let read = decodes-more c.decide.ensures.decodes c.settle.ensures.decodes in
    ends-fault _ read c.settle.ensures.settled c.in_default.ensures (ap undecoded c.take_fault.ensures.after) c.in_ok-error.error c.in_ok-error.ensures.fault
