use Rattle.std.proofs.Common.{◌≤◌, length, refl, sym, ◌∙◌, arith}
use Rattle.std.proofs.lemmas.List.{take_rest, drop_more}
use Rattle.properties_text.proofs.PrintedTexts.Runs.{stop-put, put-run, stop-broken, run-byte, front-kept, run-kept}
use Rattle.properties_text.proofs.print.runs.put_stops.Goals as goal

pub returns-in-Err-clause-put : goal.returns-in-Err-clause-put
returns-in-Err-clause-put g c =
    let first = rw (take_rest, drop_more c.args.text.now c.loop-put.put.read 0 c.loop-put-test.true) at c.begins_with_stop.ensures in
    stop-broken c.args.out.now c.args.start.end c.args.start.read c.requires.stops c.loop-put-test.true (sym first ∙ c.if-begins_with_stop.true)
    c.loop-put.invariant.put (rw take_rest at c.in-Err.ensures)

pub loop-put-preserved-then-begins_with_stop : goal.loop-put-preserved-then-begins_with_stop
loop-put-preserved-then-begins_with_stop g c =
    let h = c.loop-put.invariant in
    let put = c.put_printed-end in
    let first = rw (take_rest, drop_more c.args.text.now c.loop-put.put.read 0 c.loop-put-test.true) at c.begins_with_stop.ensures in
    let room : put.result ≤ length put.new.out = omega (arith, put.ensures.within, put.ensures.same_room, c.if-out-put-ge-LONGEST.true) in
    let kept = front-kept c.loop-put.out put.new.out _ c.args.start.end c.loop-put.put.end put.result h.room (omega (arith, c.if-out-put-ge-LONGEST.true)) room
    put.ensures.put in
    record {
      same = put.ensures.same_room ∙ h.same;
      front = kept.1 ∙ h.front;
      room = omega (arith, kept.0, h.room);
      onwards = omega (arith, h.onwards);
      start = λ q. absurd (let some = c.in-Ok.ensures.some in omega (arith, some, h.onwards, q));
      put = stop-put c.requires.stops h.put room c.loop-put-test.true (sym first ∙ c.if-begins_with_stop.true)
          (rw take_rest at c.in-Ok.ensures) refl put.ensures.put;
    }

pub loop-put-preserved : goal.loop-put-preserved
loop-put-preserved g c =
    let h = c.loop-put.invariant in
    let put = c.put_byte-end in
    let rest = take_rest c.args.text.now c.loop-put.put.read ∙ drop_more c.args.text.now c.loop-put.put.read 0 c.loop-put-test.true in
    let clear = sym (rw rest at c.begins_with_stop.ensures) ∙ c.if-begins_with_stop.false in
    let room : put.result ≤ length put.new.out = omega (arith, put.ensures.within, put.ensures.length, c.if-out-put-ge-LONGEST.true) in
    let before : c.loop-put.put.end ≤ length c.loop-put.out = omega (arith, c.if-out-put-ge-LONGEST.true) in
    let run = run-byte c.loop-put-test.true clear put.ensures.within (rw rest at put.ensures.printed) in
    let kept = run-kept c.args.start.end h.room before run room in
    record {
      same = put.ensures.length ∙ h.same;
      front = kept.1 ∙ h.front;
      room = omega (arith, kept.0, h.room);
      onwards = omega (arith, h.onwards);
      start = λ q. absurd (omega (arith, h.onwards, q));
      put = put-run c.requires.stops h.put room (λ i. omega (arith, c.type_inv.text i)) run;
    }
