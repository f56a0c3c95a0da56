use Rattle.std.proofs.Common.{◌<◌, ◌≤◌, length, refl, ◌∙◌, subst, arith}
use Rattle.std.proofs.lemmas.Result.{err_from_is_err_and}
use Rattle.counted_io.specs.Streams.{sink}
use Rattle.properties_text.specs.Encoding.{line_of}
use Rattle.java_properties.specs.Private.Engine.{writing}
use Rattle.java_properties.specs.PropertiesWriter.{Writing}
use Rattle.java_properties.proofs.TextMaps.Writing.{HasWrittenFirst, new-writing, first-none, first-more, first-all, stops-in-pair, writes}
use Rattle.java_properties.proofs.maps.write_pairs.Goals as goal

pub loop-key-init : goal.loop-key-init
loop-key-init g c =
    let s = sink g.W.Write g.W.CountedWrite in
    let a = line_of c.args.encoding in
    let from = c.args.writer.now in
    let items = c.args.pairs.now in
    let e = c.new-engine in
    let P : Writing _ → Type 0 = λ v. HasWrittenFirst s a from items 0 v in
    let fresh = new-writing e.result from (rw e.ensures.encoding refl) e.ensures.settings e.ensures.lines e.ensures.failed in
    record { written = subst P fresh (first-none s a from items); same_sink = refl }

pub returns-in_err-write_line-clause-writes : goal.returns-in_err-write_line-clause-writes
returns-in_err-write_line-clause-writes g c =
    let s = sink g.W.Write g.W.CountedWrite in
    let items = c.args.pairs.now in
    let residual = c.from_residual.result in
    let error = err_from_is_err_and residual c.from_residual.ensures.1 in
    let held = c.loop-key.invariant in
    let below : c.loop-key.key-index < length items = omega arith in
    let fails = rw c.in_err-write_line.was at c.write_line.ensures.writes in
    rw (error.1, error.2) (stops-in-pair s (line_of c.args.encoding) c.args.writer.now items c.loop-key.key-index c.loop-key-item.result _ _
    (writing c.loop-key.engine c.loop-key.writer) (writing c.write_line.new.self c.write_line.new.sink) below c.loop-key-item.is c.as_str.ensures.value
    c.as_str-in-loop-key.ensures.value held.written _ fails)

pub loop-key-preserved : goal.loop-key-preserved
loop-key-preserved g c =
    let s = sink g.W.Write g.W.CountedWrite in
    let items = c.args.pairs.now in
    let held = c.loop-key.invariant in
    let below : c.loop-key.key-index < length items = omega arith in
    let line = rw c.in_ok-write_line.was at c.write_line.ensures.writes in
    record {
      written = first-more s (line_of c.args.encoding) c.args.writer.now items c.loop-key.key-index c.loop-key-item.result _ _
          (writing c.loop-key.engine c.loop-key.writer)
          (writing c.write_line.new.self c.write_line.new.sink) below c.loop-key-item.is c.as_str.ensures.value c.as_str-in-loop-key.ensures.value
          held.written line;
      same_sink = c.write_line.ensures.same_sink ∙ held.same_sink;
    }

pub returns-clause-writes : goal.returns-clause-writes
returns-clause-writes g c =
    let s = sink g.W.Write g.W.CountedWrite in
    let a = line_of c.args.encoding in
    let items = c.args.pairs.now in
    let from = c.args.writer.now in
    let held = c.loop-key.invariant in
    let last = writing c.loop-key.engine c.loop-key.writer in
    let above : length items ≤ c.loop-key.key-index = omega arith in
    let made = first-all s a from items c.loop-key.key-index last above held.written in
    writes s a from items last (writing c.flush.new.self c.flush.new.sink) c.flush.result made c.flush.ensures.flushes
