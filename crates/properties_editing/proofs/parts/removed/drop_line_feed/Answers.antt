use Rattle.std.proofs.Common.{◌∙◌, sym, arith}
use Rattle.properties_editing.proofs.PartBounds.{empty_passed, plain-rest}
use Rattle.properties_editing.proofs.parts.removed.drop_line_feed.Goals as goal

pub returns-else-place-end-clause-parts : goal.returns-else-place-end-clause-parts
returns-else-place-end-clause-parts c =
    let size = c.len.ensures ∙ c.args.parts.now.ok.0 in
    let h = c.loop-place.invariant in
    sym (empty_passed c.args.body.now c.args.from c.loop-place.place c.args.parts.now.items h.0 h.2
    ∙ plain-rest c.args.body.now c.args.feeds c.loop-place.place c.args.parts.now.items c.requires.plain (omega (arith, c.min-end.ensures, size)))
