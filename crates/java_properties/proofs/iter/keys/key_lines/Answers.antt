use Rattle.std.proofs.Common.{ap, sym, subst, arith}
use Rattle.std.proofs.lemmas.Result.{err_from_is_err_and}
use Rattle.properties_lines.specs.LineJoiner.{LineState}
use Rattle.properties_items.specs.Errors.{IsBareError}
use Rattle.properties_items.specs.declared.error.ErrorKind.TheVariants.{Memory}
use Rattle.properties_items.specs.declared.error.PropertiesError.{PropertiesError}
use Rattle.java_properties.proofs.KeyLines.{keys-start, keys-next, keys-all}
use Rattle.java_properties.proofs.SourceFindings.{slice-stopped}
use Rattle.java_properties.proofs.Items.{stopped, ended}
use Rattle.java_properties.proofs.iter.keys.key_lines.Goals as goal

pub loop-number-init : goal.loop-number-init
loop-number-init c = record {
  found = keys-start _ _ _ c.new-keys.ensures.items c.new-firsts.ensures.empty (ap (λ v. let w : LineState = v in w.state) c.new-lines.ensures.at);
  error = c.new-lines.ensures.error;
  ordered = c.new-firsts.ensures.ordered;
}

pub loop-number-preserved : goal.loop-number-preserved
loop-number-preserved c =
    let pushed = rw c.line.ensures at c.in_ok-push_key.ensures.pushes in
    record {
      found = keys-next c.in-Some.number c.next_text.new.self.at c.loop-number.invariant.found c.in-Some.ensures.joins.0 pushed;
      error = c.in-Some.ensures.joins.2;
      ordered = c.push_key.ensures.ordered;
    }

pub returns-in_err-push_key : goal.returns-in_err-push_key
returns-in_err-push_key c =
    let error = err_from_is_err_and c.from_residual.result c.from_residual.ensures.1 in
    let P : PropertiesError → Type 0 = λ v. IsBareError Memory v in
    rw error.1 (subst P (sym error.2) c.in_err-push_key.ensures.pushes)

pub returns-in_err-finish : goal.returns-in_err-finish
returns-in_err-finish c =
    let stop = stopped c.in_default.ensures.joins c.loop-number.invariant.error (sym c.in_err-finish.ensures.error) in
    let error = err_from_is_err_and c.from_residual-in_err-finish.result c.from_residual-in_err-finish.ensures.1 in
    rw error.1 (slice-stopped _ (omega arith) c.loop-number.invariant.found.collected stop.0 stop.2 error.2)

pub returns : goal.returns
returns c =
    let end = ended c.in_default.ensures.joins (sym c.in_ok-finish.ensures.error) in
    keys-all c.loop-number.invariant.found end.0
