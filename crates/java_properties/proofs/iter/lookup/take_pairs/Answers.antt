use Rattle.std.proofs.Common.{◌∙◌, ℕ, List, ap, sym, subst, arith}
use Rattle.std.specs.Prelude.{Ok, Option}
use Rattle.std.proofs.lemmas.Result.{err_from_is_err_and}
use Rattle.properties_text.specs.Encoding.{encoding_of}
use Rattle.properties_lines.specs.LineJoiner.{LineState}
use Rattle.properties_items.specs.BorrowedItems.{FindsIn, IsFoundIn, found_content, outcome_pair}
use Rattle.properties_format.specs.Items.{given}
use Rattle.java_properties.specs.Private.LineByLine.{values_after}
use Rattle.properties_items.proofs.FoundItems.{plain-blank}
use Rattle.java_properties.proofs.Items.{stopped, ended}
use Rattle.java_properties.proofs.TakenPairs.{HasTaken, source-memory, taken-start, taken-passed, taken-blank, taken-item, taken-all, taken-refused}
use Rattle.java_properties.proofs.TakenPairs.{taken-error}
use Rattle.java_properties.proofs.iter.lookup.take_pairs.Given.{Over}
use Rattle.java_properties.proofs.iter.lookup.take_pairs.Goals as goal
use Rattle.java_properties.proofs.iter.lookup.take_pairs.Goals.{After-take_found, then-has_backslash+in-Ok, else-has_backslash}

pub loop-number-init : goal.loop-number-init
loop-number-init g c =
    let is = ap (λ v. let w : LineState = v in w.state) c.new-lines.ensures.at in
    record { taken = taken-start c.args.taker _ is c.requires; error = c.new-lines.ensures.error }

pub loop-number-preserved-then-are_passed_over : goal.loop-number-preserved-then-are_passed_over
loop-number-preserved-then-are_passed_over g c =
    let passed = rw c.line-line.ensures at (sym c.are_passed_over.ensures ∙ c.if-are_passed_over.true) in
    record {
      taken = taken-passed c.in-Some.number c.next_text.new.self.at c.loop-number.invariant.taken c.in-Some.ensures.joins.0 passed;
      error = c.in-Some.ensures.joins.2;
    }

pub returns-in-Err : goal.returns-in-Err
returns-in-Err g c =
    let other = rw c.line-line.ensures at (sym c.are_passed_over.ensures ∙ c.if-are_passed_over.false) in
    let none = rw c.line-line.ensures at (c.in-Err.ensures c.in-Some.number c.unresolved.result c.unresolved.ensures) in
    taken-refused c.unresolved.result c.in-Some.number c.next_text.new.self.at c.loop-number.invariant.taken c.in-Some.ensures.joins.0 (other, none)

pub loop-number-preserved-in_default-found : goal.loop-number-preserved-in_default-found
loop-number-preserved-in_default-found g c =
    let found : FindsIn c.line-line.result.now c.in-Some.number (Ok c.if-has_backslash.found) =
    elim c.if-has_backslash.branch [
      | then-has_backslash+in-Ok w ↦ rw w.found-is w.in-Ok.ensures
      | else-has_backslash w ↦ rw w.found-is w.find_plain-found.ensures
    ] in
    let blank = rw c.line-line.ensures at (plain-blank c.line-line.result.now c.in-Some.number c.if-has_backslash.found found c.in_default-found.not-Some) in
    record {
      taken = taken-blank c.in-Some.number c.next_text.new.self.at c.loop-number.invariant.taken c.in-Some.ensures.joins.0 blank;
      error = c.in-Some.ensures.joins.2;
    }

-- the item that was found in the line
found-in : (g : Over) (c : After-take_found g) → IsFoundIn c.next_text.new.self.at.line c.in-Some-found.found
found-in g c =
    let found : FindsIn c.line-line.result.now c.in-Some.number (Ok c.if-has_backslash.found) =
    elim c.if-has_backslash.branch [
      | then-has_backslash+in-Ok w ↦ rw w.found-is w.in-Ok.ensures
      | else-has_backslash w ↦ rw w.found-is w.find_plain-found.ensures
    ] in
    rw c.line-line.ensures at ((rw c.in-Some-found.is at found).1)

pub returns-in_err-take_found : goal.returns-in_err-take_found
returns-in_err-take_found g c =
    let error = err_from_is_err_and c.from_residual.result c.from_residual.ensures.1 in
    rw error.1 (source-memory (encoding_of c.args.options.encoding) c.args.source.now c.args.options.comments _ error.2)

-- It was taken if it is a pair.
item-taken : (g : Over) (c : After-take_found g)
    → (let pair = outcome_pair (given (found_content c.line-line.result.now c.in-Some-found.found.content)) in
    (values : List ℕ → Option (List ℕ)) → g.T.PairTaker.has c.args.taker c.loop-number.taker values
    → g.T.PairTaker.has c.args.taker c.take_found.new.taker (values_after pair values))
    → HasTaken (g.T.PairTaker.has c.args.taker) c.args.options.comments (encoding_of c.args.options.encoding) c.args.source.now c.take_found.new.taker
    c.next_text.new.self.at.state c.next_text.new.reader.now
item-taken g c takes =
    let P : List ℕ → (List ℕ → Option (List ℕ)) → Type 0 = λ x values.
    let pair = outcome_pair (given (found_content x c.in-Some-found.found.content)) in
    g.T.PairTaker.has c.args.taker c.take_found.new.taker (values_after pair values) in
    let came = c.in-Some.ensures.joins.0 in
    taken-item c.in-Some.number c.next_text.new.self.at c.take_found.new.taker c.in-Some-found.found c.loop-number.invariant.taken came (found-in g c)
    (λ values has. subst (λ x. P x values) c.line-line.ensures (takes values has))

pub loop-number-preserved-in_ok-take_found : goal.loop-number-preserved-in_ok-take_found
loop-number-preserved-in_ok-take_found g c =
    record {
      taken = item-taken g (goal.at.loop-number-preserved-in_ok-take_found g c).After-take_found (c.in_ok-take_found.ensures c.args.taker);
      error = c.in-Some.ensures.joins.2;
    }

pub loop-number-preserved-in_ok-take_found-2 : goal.loop-number-preserved-in_ok-take_found-2
loop-number-preserved-in_ok-take_found-2 g c =
    record {
      taken = item-taken g (goal.at.loop-number-preserved-in_ok-take_found-2 g c).After-take_found (c.in_ok-take_found.ensures c.args.taker);
      error = c.in-Some.ensures.joins.2;
    }

pub loop-number-preserved-in_ok-take_found-3 : goal.loop-number-preserved-in_ok-take_found-3
loop-number-preserved-in_ok-take_found-3 g c =
    record {
      taken = item-taken g (goal.at.loop-number-preserved-in_ok-take_found-3 g c).After-take_found (c.in_ok-take_found.ensures c.args.taker);
      error = c.in-Some.ensures.joins.2;
    }

pub loop-number-preserved : goal.loop-number-preserved
loop-number-preserved g c =
    record {
      taken = item-taken g (goal.at.loop-number-preserved g c).After-take_found (c.in_ok-take_found.ensures c.args.taker);
      error = c.in-Some.ensures.joins.2;
    }

pub returns-in_err-finish : goal.returns-in_err-finish
returns-in_err-finish g c =
    let stop = stopped c.in_default.ensures.joins c.loop-number.invariant.error (sym c.in_err-finish.ensures.error) in
    let error = err_from_is_err_and c.from_residual-in_err-finish.result c.from_residual-in_err-finish.ensures.1 in
    rw error.1 (taken-error _ (omega arith) c.loop-number.invariant.taken stop.0 stop.2 error.2)

pub returns : goal.returns
returns g c =
    let end = ended c.in_default.ensures.joins (sym c.in_ok-finish.ensures.error) in
    taken-all c.loop-number.invariant.taken end.0
