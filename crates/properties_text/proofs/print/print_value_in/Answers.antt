use Rattle.std.proofs.Common.{◌==◌, length, sym, ap, ◌∙◌, subst}
use Rattle.std.proofs.lemmas.List.{take_rest}
use Rattle.properties_text.specs.Printing.{is_first_escaped, rest_bytes}
use Rattle.properties_text.specs.PrintedTexts.{meaning_in, PrintsMeant}
use Rattle.properties_text.proofs.PrintedTexts.Values.{no-value, value-plain, value-escaped}
use Rattle.properties_text.proofs.print.print_value_in.Goals as goal

pub returns-then-is_empty : goal.returns-then-is_empty
returns-then-is_empty c =
    no-value c.args.value.encoding c.args.repertoire c.args.value.escaped c.args.after_blanks c.args.value.bytes.now c.args.line.now (sym c.is_empty.ensures ∙ c.if-is_empty.true)

pub returns-then-not-is_first_escaped : goal.returns-then-not-is_first_escaped
returns-then-not-is_first_escaped c =
    let first = c.in-Ok.first in
    let none = ap (λ v. length v == 0) (sym (take_rest c.args.value.bytes.now first.length)) ∙ sym c.is_empty-2.ensures in
    let own = ap (is_first_escaped c.args.after_blanks first.character) none ∙ sym c.is_first_escaped.ensures ∙ c.if-not-is_first_escaped.true in
    value-plain c.args.repertoire c.args.after_blanks c.args.line.now c.in-Ok.ensures c.print_rest_of_value.new.line c.print_rest_of_value.result own
    c.print_rest_of_value.ensures

pub returns : goal.returns
returns c =
    let first = c.in-Ok.first in
    let line = c.print_in_key_or_value.new.line in
    let new = c.print_rest_of_value-2.new.line in
    let left = take_rest c.args.value.bytes.now first.length in
    let none = ap (λ v. length v == 0) (sym left) ∙ sym c.is_empty-2.ensures in
    let own = ap (is_first_escaped c.args.after_blanks first.character) none ∙ sym c.is_first_escaped.ensures ∙ c.if-not-is_first_escaped.false in
    value-escaped c.args.repertoire c.args.after_blanks c.args.line.now c.in-Ok.ensures line new c.print_rest_of_value-2.result own
    c.in_ok-print_in_key_or_value.ensures
    (subst (λ v. PrintsMeant (meaning_in c.args.value.encoding c.args.value.escaped v) (rest_bytes c.args.repertoire) line c.print_rest_of_value-2.result new) left
    c.print_rest_of_value-2.ensures)
