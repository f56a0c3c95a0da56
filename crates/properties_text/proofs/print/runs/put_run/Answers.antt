use Rattle.std.proofs.Common.{◌≡◌, ◌<◌, ◌++◌, length, get_or, take, refl, sym, ap, ◌∙◌, arith}
use Rattle.std.proofs.lemmas.List.{length-take-le, get_or-take}
use Rattle.properties_text.specs.Printing.{printed_byte}
use Rattle.properties_text.proofs.PrintedTexts.Runs.{run-byte, run-on, run-none}
use Rattle.properties_text.proofs.print.runs.put_run.Goals as goal
use Rattle.properties_text.proofs.print.runs.put_run.Goals.{then-part-from-ge-FEW+then-part-put-ge8, then-part-from-ge-FEW+else-part-put-ge8, else-part-from-ge-FEW}

pub loop-put-2-preserved : goal.loop-put-2-preserved
loop-put-2-preserved g c =
    let text = take c.args.part.size c.args.part.bytes.now in
    let loop = c.loop-put-2 in
    let size : length text ≡ c.args.part.size = length-take-le c.args.part.size c.args.part.bytes.now c.args.part.within in
    let same : get_or text loop.put.read 0 ≡ get_or c.args.part.bytes.now loop.put.read 0 = get_or-take c.args.part.size c.args.part.bytes.now loop.put.read 0
    c.loop-put-2-test.true in
    let own = c.put_byte-end.ensures in
    let clear = ap g.Stops.ByteClass.holds same ∙ sym c.contains.ensures ∙ c.if-not-contains.true in
    let inside : loop.put.read < length text = omega (arith, size, c.loop-put-2-test.true) in
    record {
      same = own.length ∙ loop.invariant.same;
      run = run-on loop.invariant.run
          (run-byte inside clear own.within (own.printed ∙ ap (λ v. take loop.put.end loop.out ++ printed_byte v) (sym same)));
    }

pub loop-put-preserved : goal.loop-put-preserved
loop-put-preserved g c = record {
  same = c.put_block-next.ensures.same_room ∙ c.loop-put.invariant.same;
  run = run-on c.loop-put.invariant.run c.put_block-next.ensures.run;
}

pub loop-put-2-init : goal.loop-put-2-init
loop-put-2-init g c =
    let size = length-take-le c.args.part.size c.args.part.bytes.now c.args.part.within in
    elim c.if-part-from-ge-FEW.branch [
      | then-part-from-ge-FEW+then-part-put-ge8 w ↦
          let h = w.loop-put.invariant in
          let own = w.put_block-put.ensures in
          rw (w.put-is, w.out-is) (record { same = own.same_room ∙ h.same; run = run-on h.run own.run })
      | then-part-from-ge-FEW+else-part-put-ge8 w ↦
          rw (w.put-is, w.out-is) (record { same = w.loop-put.invariant.same; run = w.loop-put.invariant.run })
      | else-part-from-ge-FEW w ↦
          rw (w.put-is, w.out-is) (record { same = refl; run = run-none (omega (arith, size, c.requires.from)) refl })
    ]

pub returns-then-next-put-clause-run : goal.returns-then-next-put-clause-run
returns-then-next-put-clause-run g c = run-on c.loop-put.invariant.run c.put_block-next.ensures.run
