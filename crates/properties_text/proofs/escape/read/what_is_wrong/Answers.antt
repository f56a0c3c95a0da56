use Rattle.std.proofs.Common.{◌≡◌, length, ap, sym, ◌∙◌, eqb-true, arith}
use Rattle.properties_text.specs.Escaping.{text_in}
use Rattle.properties_text.proofs.SpeltTexts.Escapes.{no-text}
use Rattle.properties_text.proofs.escape.read.what_is_wrong.Goals as goal

pub returns-then-is_empty : goal.returns-then-is_empty
returns-then-is_empty c =
    let empty = eqb-true _ _ (sym c.is_empty.ensures ∙ c.if-is_empty.true) in
    let none : length (text_in c.args.encoding c.loop-count.rest.now) ≡ 0 = ap length (no-text c.args.encoding c.loop-count.rest.now empty) in
    omega (arith, none, c.loop-count.invariant.counted, c.loop-count-test.true)
