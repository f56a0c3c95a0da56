use Rattle.std.proofs.Common.{◌≡◌, true, sym, ◌∙◌, arith}
use Rattle.properties_editing.specs.Private.BodyParts.{is_empty_part}
use Rattle.properties_editing.proofs.PartBounds.{all-before}
use Rattle.properties_editing.proofs.parts.source_parts.empty_before.Goals as goal

pub loop-place-init : goal.loop-place-init
loop-place-init c = ((omega arith), λ i from before. c.requires.empty i (omega arith) before)

pub loop-place-preserved : goal.loop-place-preserved
loop-place-preserved c =
    let h = c.loop-place.invariant in
    let within = c.requires.within in (
      (omega arith),
      all-before (λ p. is_empty_part p ≡ true) c.loop-place.place c.args.end c.args.parts.now.items c.index.result.now c.loop-place-test.true (omega arith)
          c.index.ensures (sym c.is_empty.ensures ∙ c.if-is_empty.true) h.1,
    )
