use Rattle.std.proofs.Common.{ap, refl, sym, arith}
use Rattle.std.proofs.lemmas.Result.{err_from_is_err_and}
use Rattle.properties_lines.specs.LineJoiner.{LineState}
use Rattle.java_properties.proofs.Items.{stopped, ended}
use Rattle.properties_tables.proofs.FindingFolds.{findings_in, taken-all, taken-at, taken-failed, taken-more, taken-none}
use Rattle.properties_tables.proofs.fold.take_all.Goals as goal

pub loop-number-init : goal.loop-number-init
loop-number-init g c = record {
  taken = taken-none _ (ap (λ v. let w : LineState = v in w.state) c.new-lines.ensures.at) c.requires;
  error = c.new-lines.ensures.error;
}

pub take_line-requires : goal.take_line-requires
take_line-requires g c = (c.args.taker, findings_in c.loop-number.invariant.taken.groups, c.loop-number.invariant.taken.took)

pub loop-number-preserved : goal.loop-number-preserved
loop-number-preserved g c =
    let takes = rw c.line.ensures at c.in_ok-take_line.ensures in
    let more = taken-more c.in-Some.number c.next_text.new.self.at (taken-at refl c.loop-number.invariant.taken) c.in-Some.ensures.joins.0 takes in
    record { taken = taken-at refl more; error = c.in-Some.ensures.joins.2 }

pub returns-in_err-take_line : goal.returns-in_err-take_line
returns-in_err-take_line g c =
    let error = err_from_is_err_and c.from_residual.result c.from_residual.ensures.1 in
    rw (error.1, error.2) c.in_err-take_line.ensures

pub returns-in_err-finish : goal.returns-in_err-finish
returns-in_err-finish g c =
    let stop = stopped c.in_default.ensures.joins c.loop-number.invariant.error (sym c.in_err-finish.ensures.error) in
    let error = err_from_is_err_and c.from_residual-in_err-finish.result c.from_residual-in_err-finish.ensures.1 in
    rw error.1 (taken-failed (omega arith) (taken-at refl c.loop-number.invariant.taken) stop.0 stop.2 error.2)

pub returns : goal.returns
returns g c =
    let end = ended c.in_default.ensures.joins (sym c.in_ok-finish.ensures.error) in
    taken-all c.loop-number.invariant.taken end.0
