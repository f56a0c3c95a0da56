use Rattle.std.proofs.{Common.arith, lemmas.Bool.Decides.nat_tests}
use Rattle.properties_c.proofs.{OneReading.line-one, OneReading.list-read, ListFronts.IsFirst-shorter, WrittenLines.added-refused, WrittenLines.added-accepted}
use Rattle.properties_c.proofs.write.write_lines.Goals as goal

pub loop-rest-smaller-then-has_refused : goal.loop-rest-smaller-then-has_refused
loop-rest-smaller-then-has_refused g c = IsFirst-shorter c.in-Ok.ensures

pub loop-rest-smaller : goal.loop-rest-smaller
loop-rest-smaller g c = IsFirst-shorter c.in-Ok.ensures

pub loop-rest-preserved-then-has_refused : goal.loop-rest-preserved-then-has_refused
loop-rest-preserved-then-has_refused g c =
    added-refused c.if-has_refused.true c.loop-rest.invariant c.in-Ok.ensures c.in-Ok-write_line.ensures

pub loop-rest-preserved : goal.loop-rest-preserved
loop-rest-preserved g c =
    added-accepted c.if-has_refused.false c.loop-rest.invariant c.in-Ok.ensures c.in-Ok-write_line.ensures

pub returns : goal.returns
returns g c =
    let h = c.loop-rest.invariant in
    record {
      contents = h.contents;
      are_lines = list-read _ line-one c.loop-rest.rest.now (grind (arith, nat_tests)) h.begins;
      made = h.made;
      refuses = h.refuses;
    }
