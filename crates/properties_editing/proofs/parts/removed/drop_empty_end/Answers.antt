use Rattle.std.proofs.Common.{◌≡◌, ◌∙◌, length, refl, ap, sym, arith}
use Rattle.std.proofs.Math.Seq.{take-length}
use Rattle.properties_editing.specs.Private.BodyParts.{is_empty_part}
use Rattle.properties_editing.specs.Private.RemovedParts.{without_empty_end}
use Rattle.properties_editing.proofs.PartLists.{empty_end, some_end}
use Rattle.properties_editing.proofs.parts.removed.drop_empty_end.Goals as goal
use Rattle.properties_editing.proofs.parts.removed.drop_empty_end.Goals.{then-loop-size-test+else-is_empty, else-loop-size-test}

pub loop-size-init : goal.loop-size-init
loop-size-init c =
    let ps = c.args.parts.now.items in
    let size : c.len-size.result ≡ length ps = c.len-size.ensures ∙ c.args.parts.now.ok.0 in
    rw size ((omega arith), ap without_empty_end (sym (take-length ps)))

pub loop-size-preserved : goal.loop-size-preserved
loop-size-preserved c =
    let n = c.loop-size.size in
    let ps = c.args.parts.now.items in
    let within = c.loop-size.invariant.0 in (
      (omega arith),
      c.loop-size.invariant.1
          ∙ empty_end ps n c.index.result.now c.loop-size-test.true within
          (ap is_empty_part (sym c.index.ensures) ∙ sym c.is_empty.ensures ∙ c.if-is_empty.true),
    )

pub returns : goal.returns
returns c =
    let n = c.loop-size.size in
    let ps = c.args.parts.now.items in
    let within = c.loop-size.invariant.0 in
    c.truncate.ensures.items ∙ sym (c.loop-size.invariant.1 ∙ elim c.loop-size-test.branch [
      | then-loop-size-test+else-is_empty w ↦
          some_end ps n w.index.result.now w.loop-size-test.true within (ap is_empty_part (sym w.index.ensures) ∙ sym w.is_empty.ensures ∙ w.if-is_empty.false)
      | else-loop-size-test w ↦ let z : n ≡ 0 = omega arith in rw z refl
    ])
