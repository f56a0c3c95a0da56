use Rattle.std.proofs.Common.{◌∙◌}
use Rattle.properties_text.proofs.TextFronts.{at-error}
use Rattle.properties_text.proofs.PrintedTexts.Keys.{front-start, front-on, front-still}
use Rattle.properties_text.proofs.print.print_parts.Goals as goal

pub returns-in_err-after_separator-clause-unchanged : goal.returns-in_err-after_separator-clause-unchanged
returns-in_err-after_separator-clause-unchanged g c =
    let key = c.in_ok-after_key.ensures.printed in
    let one = front-on _ _ _ (front-start c.line.invariant) key.within key.printed in
    at-error c.from_residual-in_err-after_separator.result (front-still _ one c.put_raw.ensures.same ∙ c.line.view_is)

pub returns-in_err-after_value-clause-unchanged : goal.returns-in_err-after_value-clause-unchanged
returns-in_err-after_value-clause-unchanged g c =
    let key = c.in_ok-after_key.ensures.printed in
    let separator = c.in_ok-after_separator.ensures in
    let one = front-on _ _ _ (front-start c.line.invariant) key.within key.printed in
    let two = front-on _ _ _ one separator.within separator.put in
    at-error c.from_residual-in_err-after_value.result (front-still _ two c.print_bytes.ensures.same ∙ c.line.view_is)

pub returns-in_err-line-inside-clause-unchanged : goal.returns-in_err-line-inside-clause-unchanged
returns-in_err-line-inside-clause-unchanged g c =
    let key = c.in_ok-after_key.ensures.printed in
    let separator = c.in_ok-after_separator.ensures in
    let value = c.in_ok-after_value.ensures.printed in
    let one = front-on _ _ _ (front-start c.line.invariant) key.within key.printed in
    let two = front-on _ _ _ one separator.within separator.put in
    let three = front-on _ _ _ two value.within value.printed in
    at-error c.from_residual-in_err-line-inside.result (front-still _ three c.put_raw-2.ensures.same ∙ c.line.view_is)
