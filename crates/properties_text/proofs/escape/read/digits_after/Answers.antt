use Rattle.std.proofs.Common.{get_or, inr, arith}
use Rattle.properties_text.proofs.Texts.Units.{four-digits, no-four-digits}
use Rattle.properties_text.proofs.escape.read.digits_after.Goals as goal

pub returns-then-value-lt-NONE-clause-some : goal.returns-then-value-lt-NONE-clause-some
returns-then-value-lt-NONE-clause-some c =
    let text = c.args.text.now in
    let is = four-digits (get_or text 2 0) (get_or text 3 0) (get_or text 4 0) (get_or text 5 0)
    c.digit_value.result c.digit_value-2.result c.digit_value-3.result c.digit_value-4.result
    c.digit_value.ensures.value c.digit_value-2.ensures.value c.digit_value-3.ensures.value c.digit_value-4.ensures.value c.if-value-lt-NONE.true in
    record { within = omega (arith, c.if-text-lt6.false); hexadecimal = is.0; writes = is.1 }

pub returns-else-value-lt-NONE-clause-none : goal.returns-else-value-lt-NONE-clause-none
returns-else-value-lt-NONE-clause-none c = λ _.
    let text = c.args.text.now in
    inr (no-four-digits (get_or text 2 0) (get_or text 3 0) (get_or text 4 0) (get_or text 5 0)
    c.digit_value.result c.digit_value-2.result c.digit_value-3.result c.digit_value-4.result
    c.digit_value.ensures.value c.digit_value-2.ensures.value c.digit_value-3.ensures.value c.digit_value-4.ensures.value c.if-value-lt-NONE.false)
