use Rattle.std.proofs.Common.{◌++◌, refl, ap, ◌∙◌}
use Rattle.std.specs.Str.{chars}
use Rattle.std.proofs.lemmas.Result.{err_from_is_err_and}
use Rattle.properties_format.specs.Text.{is_blanks}
use Rattle.properties_text.specs.Printing.{value_bytes}
use Rattle.properties_text.specs.declared.print.Pair.{Pair}
use Rattle.properties_text.proofs.PrintedTexts.Readable.{no-value, pair-appended, front-refused}
use Rattle.properties_text.proofs.print.readable.print_readable_pair.Goals as goal

pub returns-in_err-print_front : goal.returns-in_err-print_front
returns-in_err-print_front c =
    let pair = c.args.pair in
    let front : Pair = record pair { value = c.of.result } in
    let p = err_from_is_err_and c.from_residual.result c.from_residual.ensures.1 in
    rw (p.1, p.2)
    (front-refused c.args.layout.repertoire c.args.layout.first (value_bytes c.args.layout.repertoire (is_blanks (chars c.args.layout.separator.now))) c.args.line.now c.args.layout.separator.now
    c.args.layout.ending.now front pair refl (no-value pair.encoding pair.escaped c.of.result c.of.ensures.size) c.print_front.new.line c.print_front.new.line
    c.in_err-print_front.field-0.0 c.in_err-print_front.ensures)

pub returns : goal.returns
returns c =
    let pair = c.args.pair in
    let front : Pair = record pair { value = c.of.result } in
    let h = c.in_ok-print_value_in.ensures in
    let line = c.print_front.new.line in
    let blanks = ap (λ b. line ++ value_bytes c.args.layout.repertoire b h.0) c.are_blanks.ensures in
    pair-appended c.args.layout.repertoire c.args.layout.first (value_bytes c.args.layout.repertoire (is_blanks (chars c.args.layout.separator.now))) c.args.line.now c.args.layout.separator.now
    c.args.layout.ending.now front pair refl (no-value pair.encoding pair.escaped c.of.result c.of.ensures.size) c.as_bytes.result.now line
    c.print_value_in.new.line c.extend.new.self c.in_ok-print_front.ensures (h.0, h.1, h.2 ∙ blanks) c.in_ok-extend.ensures.appended c.as_bytes.ensures.value
