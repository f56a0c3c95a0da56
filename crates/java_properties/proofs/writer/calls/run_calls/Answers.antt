use Rattle.std.proofs.Common.{◌≡◌, ◌<◌, ◌+◌, ◌∷◌, ◌++◌, [], length, drop, ap, sym, ◌∙◌, inr, arith, rules}
use Rattle.std.proofs.lemmas.Result.{err_from_is_err_and}
use Rattle.counted_io.specs.Streams.{sink}
use Rattle.java_properties.specs.Calls.{calls_in, call_in}
use Rattle.java_properties.specs.PropertiesWriter.{Writing}
use Rattle.java_properties.proofs.Calls.Made.{made-more, answers-more, stops, calls-cut, calls-take, calls-all}
use Rattle.java_properties.proofs.ReadBack.Scalars.{calls-scalars}
use Rattle.java_properties.proofs.ReadBack.Written.{made-read_back, runs-read_back, made-only}
use Rattle.java_properties.proofs.AsciiOnly.{made-ascii, runs-ascii}
use Rattle.java_properties.proofs.writer.calls.run_calls.Goals as goal

pub returns-in_err-accepted-clause-runs : goal.returns-in_err-accepted-clause-runs
returns-in_err-accepted-clause-runs g c =
    let error = err_from_is_err_and c.from_residual-in_err-accepted.result c.from_residual-in_err-accepted.ensures.1 in
    let at = c.loop-call.call-index in
    let below : at < length c.args.calls.now = omega arith in
    let cut = rw (← c.call-item.is) at (calls-cut call_in c.args.calls.now at c.call-item.result below) in
    let fails = rw c.in_err-accepted.was at c.run_call.ensures.makes in
    rw (error.1, error.2) (inr (stops (drop (at + 1) (calls_in c.args.calls.now)) cut c.loop-call.invariant.made fails))

pub returns-clause-reads_back : goal.returns-clause-reads_back
returns-clause-reads_back g c = grind (arith, calls-all, calls-scalars, made-read_back)

pub returns-in_err-accepted-clause-reads_back : goal.returns-in_err-accepted-clause-reads_back
returns-in_err-accepted-clause-reads_back g c = grind (arith, calls-scalars, runs-read_back, returns-in_err-accepted-clause-runs)

pub returns-in_err-accepted-clause-ascii : goal.returns-in_err-accepted-clause-ascii
returns-in_err-accepted-clause-ascii g c =
    let s = sink g.W.Write g.W.CountedWrite in
    runs-ascii s c.args.writer.now _ (calls_in c.args.calls.now) _ c.settings_are_good.ensures (calls-scalars c.args.calls.now)
    (returns-in_err-accepted-clause-runs g c)

pub returns-clause-only : goal.returns-clause-only
returns-clause-only g c = grind (arith, calls-all, calls-scalars, made-only)

pub returns-clause-ascii : goal.returns-clause-ascii
returns-clause-ascii g c = grind (arith, calls-all, calls-scalars, made-ascii)

pub loop-call-preserved : goal.loop-call-preserved
loop-call-preserved g c =
    let at = c.loop-call.call-index in
    let held = c.loop-call.invariant in
    let below : at < length c.args.calls.now = omega arith in
    let taken = rw (← c.call-item.is) at (calls-take call_in c.args.calls.now at c.call-item.result below) in
    let makes = rw c.in_ok-accepted.was at c.run_call.ensures.makes in
    let pushed : c.push.new.self.items ≡ c.loop-call.answers.items ++ (c.in_ok-accepted.accepted ∷ []) = search rules in
    record {
      made = rw taken (made-more held.made makes);
      answered = rw taken (pushed ∙ ap (λ v. v ++ (c.in_ok-accepted.accepted ∷ [])) held.answered ∙ sym (answers-more held.made makes));
      count = search rules;
      room = search rules;
      untouched = λ failed. c.run_call.ensures.untouched (ap (λ (v : Writing _). v.failed) held.made.after ∙ failed) ∙ held.untouched failed;
      same_sink = cc;
    }
