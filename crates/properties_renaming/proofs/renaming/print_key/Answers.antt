use Rattle.std.proofs.Common.{◌++◌, ◌∙◌, ap, append-nil, sym}
use Rattle.std.specs.Str.{chars}
use Rattle.std.proofs.lemmas.Result.{on_ok_weaker}
use Rattle.properties_format.specs.Text.{is_blanks}
use Rattle.properties_format.specs.Computed.Valued.{between_in}
use Rattle.properties_text.proofs.Printing.Values.{none-left}
use Rattle.properties_editing.proofs.NewPairs.{text-some}
use Rattle.properties_renaming.proofs.RenamedKeys.{key-printed, key-signed, key-unsigned, not-false, not-true}
use Rattle.properties_renaming.proofs.renaming.print_key.Goals as goal

pub returns-then-has_sign : goal.returns-then-has_sign
returns-then-has_sign c = λ p t prints.
    let between = between_in (chars c.args.line.now) in
    let none = none-left c.args.key.now (sym c.if-is_empty.ensures) in
    let signed = not-true (is_blanks between) (sym c.if-has_sign.true ∙ c.has_sign.ensures p) in
    sym (ap (λ w. c.args.text.now ++ w) (key-signed t c.args.first between (chars c.args.key.now) none signed) ∙ append-nil c.args.text.now)

pub returns-then-is_empty : goal.returns-then-is_empty
returns-then-is_empty c = λ p t prints.
    let between = between_in (chars c.args.line.now) in
    let none = none-left c.args.key.now (sym c.if-is_empty.ensures) in
    let unsigned = not-false (is_blanks between) (sym c.if-has_sign.false ∙ c.has_sign.ensures p) in
    on_ok_weaker c.extend.result
    (λ h. h ∙ ap (λ w. c.args.text.now ++ w) (sym (key-unsigned t c.args.first between (chars c.args.key.now) none unsigned)))
    c.extend.ensures.appended

pub returns : goal.returns
returns c = λ p t prints.
    on_ok_weaker c.print_texts.result
    (λ h. key-printed t c.args.repertoire c.args.first (between_in (chars c.args.line.now)) (chars c.args.key.now) c.args.text.now c.print_texts.new.line prints
    (text-some c.args.key.now c.utf8.key c.if-is_empty.ensures) h)
    c.print_texts.ensures.appended
