use Rattle.std.proofs.Common.{◌++◌, ◌∙◌, ap, sym, false}
use Rattle.std.specs.Str.{chars}
use Rattle.std.proofs.lemmas.Result.{on_ok_weaker}
use Rattle.properties_format.specs.Printing.{encoded_text}
use Rattle.properties_editing.specs.Private.Sources.{printed_repertoire}
use Rattle.properties_text.proofs.Printing.Values.{none-left}
use Rattle.properties_editing.proofs.NewPairs.{value-unseparated, value-separated, text-some}
use Rattle.properties_editing.proofs.new_value.print_value_after.Goals as goal

pub returns-then-is_empty : goal.returns-then-is_empty
returns-then-is_empty c =
    let r = printed_repertoire c.args.opened in
    let printed = rw (c.repertoire_of-repertoire.ensures.values false (chars c.args.value.now)) at c.print_value.ensures in
    on_ok_weaker c.print_value.result
    (λ h. value-unseparated r c.args.line.now c.extend.new.self c.print_value.new.line (chars c.args.separator.now) (chars c.args.value.now)
    (none-left c.args.separator.now (sym c.if-is_empty.ensures)) c.in_ok-extend.ensures.appended h)
    printed

pub returns : goal.returns
returns c =
    let r = printed_repertoire c.args.opened in
    let printed = rw (c.repertoire_of-repertoire.ensures.values c.are_blanks.result (chars c.args.value.now), c.are_blanks.ensures) at c.print_value-2.ensures in
    on_ok_weaker c.print_value-2.result
    (λ h. h ∙ ap (λ v. c.args.line.now ++ encoded_text r.encoding v) (value-separated r (chars c.args.separator.now) (chars c.args.value.now)
    (text-some c.args.separator.now c.utf8.separator c.if-is_empty.ensures)))
    printed
