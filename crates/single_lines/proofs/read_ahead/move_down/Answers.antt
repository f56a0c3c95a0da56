use Rattle.std.proofs.Common.{◌-◌, ap, ◌∙◌, take}
use Rattle.single_lines.proofs.ReadAhead.{copied-down}
use Rattle.single_lines.proofs.read_ahead.move_down.Goals as goal

pub returns : goal.returns
returns c =
    ap (λ v. take (c.args.end - c.args.start) v) c.copy_within.ensures.after
    ∙ copied-down c.args.buffer.now c.args.start c.args.end c.requires.order c.requires.within
