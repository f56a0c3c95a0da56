use Rattle.std.proofs.lemmas.List.{take_rest}
use Rattle.properties_text.proofs.SpeltTexts.FirstMalformed.{spelt-to, spelt-more, spelt-broken, spelt-all}
use Rattle.properties_text.proofs.escape.first_malformed.Goals as goal

pub read_escape-requires-clause-well : goal.read_escape-requires-clause-well
read_escape-requires-clause-well c =
    rw take_rest (spelt-to c.args.encoding c.args.text.now c.loop-next.at c.in-Some.next c.loop-next.invariant (rw take_rest at c.in-Some.ensures)).well

pub loop-next-preserved : goal.loop-next-preserved
loop-next-preserved c =
    let to = spelt-to c.args.encoding c.args.text.now c.loop-next.at c.in-Some.next c.loop-next.invariant (rw take_rest at c.in-Some.ensures) in
    spelt-more c.args.encoding c.args.text.now _ c.in-Ok.escape to (rw take_rest at c.in-Ok.ensures)

pub returns-in-Err : goal.returns-in-Err
returns-in-Err c =
    let to = spelt-to c.args.encoding c.args.text.now c.loop-next.at c.in-Some.next c.loop-next.invariant (rw take_rest at c.in-Some.ensures) in
    let read = rw take_rest at c.in-Err.ensures in
    spelt-broken c.args.encoding c.args.text.now _ _ to read.0 read.1

pub returns : goal.returns
returns c = spelt-all c.args.encoding c.args.text.now c.loop-next.at c.loop-next.invariant (rw take_rest at c.in_default.ensures)
