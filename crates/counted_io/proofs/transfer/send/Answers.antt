use Rattle.std.proofs.Common.{◌≡◌, ◌++◌, ◌-◌, ◌∙◌, take, drop, length, arith}
use Rattle.std.proofs.lemmas.Grind.{common_steps}
use Rattle.counted_io.proofs.Streams.{sent-more, taken-some}
use Rattle.counted_io.proofs.transfer.send.Goals as goal

pub loop-rest-preserved : goal.loop-rest-preserved
loop-rest-preserved g c =
    let n = c.in-Ok.taken in
    let rest = c.loop-rest.rest.now in
    let bytes = rw c.in-Ok.is at c.write_counted.ensures.bytes in
    let faults = rw c.in-Ok.is at c.write_counted.ensures.faults in
    let same = faults ∙ taken-some (g.W.CountedWrite.faults c.loop-rest.sink) n rest c.in-Ok.taken-test.1 in
    let e : rest ≡ take n rest ++ take (length rest - n) (drop n rest) = grind (arith, common_steps) in
    record {
      sent = sent-more (take n rest) (take (length rest - n) (drop n rest)) c.loop-rest.invariant.sent e (record { moved = bytes; faultless = same });
      same_sink = cc;
    }
