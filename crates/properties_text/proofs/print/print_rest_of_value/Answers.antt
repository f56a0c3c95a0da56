use Rattle.std.proofs.Common.{◌==◌, length, sym, ap, ◌∙◌, subst}
use Rattle.std.proofs.lemmas.List.{take_rest}
use Rattle.properties_text.specs.Escaping.{malformed_in}
use Rattle.properties_text.proofs.PrintedTexts.Values.{IsPrintedTo, others-well, stop-broken, run-and-stop, all-printed}
use Rattle.properties_text.proofs.print.print_rest_of_value.Goals as goal

pub read_first-requires-clause-well : goal.read_first-requires-clause-well
read_first-requires-clause-well c = others-well c.loop-plain.invariant c.in-Some.plain c.in-Some.ensures c.split_at.result.1.now c.split_at.ensures.back

pub returns-in-Err : goal.returns-in-Err
returns-in-Err c =
    stop-broken c.loop-plain.invariant c.in-Some.plain c.in-Some.ensures c.split_at.result.1.now (malformed_in c.in-Err.malformed) c.split_at.ensures.back
    c.in-Err.ensures

pub loop-plain-preserved : goal.loop-plain-preserved
loop-plain-preserved c =
    let others = c.split_at.result.1.now in
    let left = take_rest others c.in-Ok.stop.length in
    subst (λ v. IsPrintedTo c.args.encoding c.args.repertoire c.args.escaped c.args.line.now c.args.bytes.now v c.print_inside_value.new.line) (sym left)
    (run-and-stop c.loop-plain.invariant c.in-Some.plain c.in-Some.ensures c.extend.new.self c.split_at.result.0.now others c.print_inside_value.new.line
    c.is_empty.result c.in-Ok.stop c.split_at.ensures.front c.split_at.ensures.back c.in_ok-extend.ensures.appended c.in-Ok.ensures
    (c.is_empty.ensures ∙ ap (λ v. length v == 0) left) c.in_ok-print_inside_value.ensures)

pub returns : goal.returns
returns c = all-printed c.loop-plain.invariant c.print_last_run.new.line c.in_default.ensures c.in_ok-print_last_run.ensures
