use Rattle.std.proofs.lemmas.Result.{err_from_is_err_and}
use Rattle.java_properties.proofs.Readings.{collected-none, collected-error}
use Rattle.java_properties.proofs.sources.read_all_items.Goals as goal

pub returns-in_err-line : goal.returns-in_err-line
returns-in_err-line g c =
    let error = err_from_is_err_and c.from_residual.result c.from_residual.ensures.1 in
    let refused = rw c.in_err-line.was at c.in-Some.ensures.gives in
    rw (error.1, error.2) (record {
      lines = c.loop-item.invariant.lines;
      stops = collected-error c.loop-item.invariant.collected refused.0 refused.2;
    })

pub returns : goal.returns
returns g c = (c.loop-item.invariant.lines, collected-none c.loop-item.invariant.collected c.in_default.ensures.gives)
