use Rattle.std.proofs.Common.{◌≡◌, ◌++◌, ◌∙◌, false, rules, ap, append-nil, sym, arith}
use Rattle.std.proofs.lemmas.Result.{err_from_is_err_and}
use Rattle.properties_lines.specs.LineJoiner.{LineState}
use Rattle.java_properties.specs.Findings.{escape_records}
use Rattle.java_properties.proofs.MalformedEscapes.{plain-none}
use Rattle.java_properties.proofs.SourceFindings.{found-start, found-next, found-all, slice-stopped}
use Rattle.java_properties.proofs.Items.{stopped, ended}
use Rattle.java_properties.proofs.iter.escapes.malformed_escapes.Goals as goal

pub loop-number-init : goal.loop-number-init
loop-number-init c = record {
  found = found-start _ _ c.new-escapes.ensures.items (ap (λ v. let w : LineState = v in w.state) c.new-lines.ensures.at);
  error = c.new-lines.ensures.error;
}

-- A line without a backslash came.
pub loop-number-preserved-then-not-has_backslash : goal.loop-number-preserved-then-not-has_backslash
loop-number-preserved-then-not-has_backslash c =
    let off : c.next_text.new.self.has_backslash ≡ false = search rules in
    let none = ap escape_records (plain-none c.in-Some.number _ (c.in-Some.ensures.joins.1 off)) in
    let found = c.loop-number.escapes.items in
    record {
      found = found-next c.in-Some.number c.next_text.new.self.at found c.loop-number.invariant.found c.in-Some.ensures.joins.0
          (sym (append-nil found) ∙ ap (λ v. found ++ v) (sym none));
      error = c.in-Some.ensures.joins.2;
    }

pub loop-number-preserved : goal.loop-number-preserved
loop-number-preserved c =
    let one = rw c.line.ensures at c.in-Some-malformed_in.ensures in
    record {
      found = found-next c.in-Some.number c.next_text.new.self.at c.push.new.self.items c.loop-number.invariant.found c.in-Some.ensures.joins.0
          (c.in_ok-push.ensures.items ∙ ap (λ v. c.loop-number.escapes.items ++ v) one);
      error = c.in-Some.ensures.joins.2;
    }

pub loop-number-preserved-in_default-malformed_in : goal.loop-number-preserved-in_default-malformed_in
loop-number-preserved-in_default-malformed_in c =
    let none = rw c.line.ensures at c.in_default-malformed_in.ensures in
    let found = c.loop-number.escapes.items in
    record {
      found = found-next c.in-Some.number c.next_text.new.self.at found c.loop-number.invariant.found c.in-Some.ensures.joins.0
          (sym (append-nil found) ∙ ap (λ v. found ++ v) none);
      error = c.in-Some.ensures.joins.2;
    }

pub returns-in_err-push : goal.returns-in_err-push
returns-in_err-push c =
    let error = err_from_is_err_and c.from_residual.result c.from_residual.ensures.1 in
    rw error.1 error.2

pub returns-in_err-finish : goal.returns-in_err-finish
returns-in_err-finish c =
    let stop = stopped c.in_default.ensures.joins c.loop-number.invariant.error (sym c.in_err-finish.ensures.error) in
    let error = err_from_is_err_and c.from_residual-in_err-finish.result c.from_residual-in_err-finish.ensures.1 in
    rw error.1 (slice-stopped _ (omega arith) c.loop-number.invariant.found.collected stop.0 stop.2 error.2)

pub returns : goal.returns
returns c =
    let end = ended c.in_default.ensures.joins (sym c.in_ok-finish.ensures.error) in
    found-all c.loop-number.invariant.found end.0
