use Rattle.std.proofs.Common.{arith, refl, ◌∙◌}
use Rattle.properties_editing.proofs.PartBounds.{plain-before, plain-within}
use Rattle.properties_editing.proofs.parts.source_parts.feeds_end.Goals as goal

pub loop-place-init : goal.loop-place-init
loop-place-init c =
    let size = c.len.ensures ∙ c.args.parts.now.ok.0 in
    (omega (arith, size), plain-within c.args.body.now c.args.end c.min-place.result c.args.parts.now.items c.requires.plain (omega (arith, size)))

pub loop-place-preserved : goal.loop-place-preserved
loop-place-preserved c =
    let h = c.loop-place.invariant in (
      (omega arith),
      plain-before c.args.body.now c.loop-place.place c.args.parts.now.items c.index.result.now c.loop-place-test.true h.0
          c.index.ensures (c.if-not-begins_with_line_feed.ensures refl) h.1,
    )
