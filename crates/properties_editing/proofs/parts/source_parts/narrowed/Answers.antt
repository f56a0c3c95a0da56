use Rattle.std.proofs.Common.{arith, ◌∙◌}
use Rattle.properties_editing.specs.Private.PartBounds.{IsPairless}
use Rattle.properties_editing.proofs.PartBounds.{all-before}
use Rattle.properties_editing.proofs.parts.source_parts.narrowed.Goals as goal

pub loop-pairs-init : goal.loop-pairs-init
loop-pairs-init c =
    let size = c.len.ensures ∙ c.args.parts.now.ok.0 in
    ((omega arith), (omega (arith, size)), λ i from before. c.requires.pairs i (omega arith) (omega arith))

pub loop-pairs-preserved : goal.loop-pairs-preserved
loop-pairs-preserved c =
    let h = c.loop-pairs.invariant in (
      (omega arith),
      h.1,
      all-before IsPairless c.loop-pairs.pairs c.min-end.result c.args.parts.now.items c.index.result.now c.loop-pairs-test.true (omega arith)
          c.index.ensures (c.has_no_pair.ensures c.if-has_no_pair.true) h.2,
    )
