use Rattle.std.proofs.Common.{◌∙◌, arith}
use Rattle.std.proofs.lemmas.Result.{err_from_is_err_and}
use Rattle.properties_text.proofs.PrintedTexts.Runs.{put-on, put-run, stops-refused, fewer-kept, run-kept, small-take}
use Rattle.properties_text.proofs.print.runs.print_rest.Goals as goal

pub loop-put-preserved : goal.loop-put-preserved
loop-put-preserved g c =
    let h = c.loop-put.invariant in
    let stops = c.in_ok-put.ensures in
    let run = c.in_ok-put-2.ensures in
    let kept = run-kept c.args.at (omega (arith, h.room, stops.after)) stops.put.within run.run run.within in
    record {
      front = kept.1 ∙ fewer-kept c.print_stops.new.out.items c.loop-put.out.items c.args.at c.loop-put.put.end h.room stops.same ∙ h.front;
      room = kept.0;
      longer = omega (arith, h.longer, stops.longer, run.longer);
      put = put-run c.requires.stops (put-on h.put stops.put) run.within
          (small-take c.args.size c.args.bytes.now (λ i. omega (arith, c.type_inv.bytes i))) run.run;
    }

pub returns-in_err-put-clause-printed : goal.returns-in_err-put-clause-printed
returns-in_err-put-clause-printed g c =
    let e = err_from_is_err_and c.from_residual.result c.from_residual.ensures.1 in
    rw (e.1, e.2) (stops-refused c.args.out.now.items c.args.at c.args.from c.print_stops.new.out.items c.in_err-put.field-0.0
    c.loop-put.invariant.put c.in_err-put.ensures.put)

pub returns-in_err-put-clause-same : goal.returns-in_err-put-clause-same
returns-in_err-put-clause-same g c =
    let h = c.loop-put.invariant in
    fewer-kept c.print_stops.new.out.items c.loop-put.out.items c.args.at c.loop-put.put.end h.room c.print_stops.ensures.same ∙ h.front

pub returns-in_err-put-2-clause-same : goal.returns-in_err-put-2-clause-same
returns-in_err-put-2-clause-same g c =
    let h = c.loop-put.invariant in
    let stops = c.in_ok-put.ensures in
    fewer-kept c.print_run.new.out.items c.print_stops.new.out.items c.args.at c.in_ok-put.put.end (omega (arith, h.room, stops.after)) c.print_run.ensures.same
    ∙ fewer-kept c.print_stops.new.out.items c.loop-put.out.items c.args.at c.loop-put.put.end h.room stops.same
    ∙ h.front
