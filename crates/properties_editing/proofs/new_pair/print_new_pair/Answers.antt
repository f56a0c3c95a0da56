use Rattle.std.proofs.Common.{◌++◌, ◌∙◌, ap, ap₂, sym, refl, append-nil}
use Rattle.std.specs.Str.{chars}
use Rattle.std.proofs.lemmas.Result.{on_ok_weaker}
use Rattle.properties_format.specs.Text.{is_blanks}
use Rattle.properties_format.specs.Printing.{encoded_text, printed_key, printed_value}
use Rattle.properties_editing.specs.Private.Sources.{printed_repertoire}
use Rattle.properties_format.proofs.Printing.Characters.{encoded_text-append}
use Rattle.properties_text.specs.Printing.{value_bytes}
use Rattle.properties_items.proofs.RawTexts.{separator-bytes}
use Rattle.properties_editing.proofs.new_pair.print_new_pair.Goals as goal

pub returns : goal.returns
unfolding chars
returns c =
    let r = printed_repertoire c.args.opened in
    let separator = chars c.args.separator.now in
    let value = chars c.args.value.now in
    let blank = is_blanks separator in
    let key = printed_key r c.args.first (chars c.args.key.now) in
    let back = printed_value r blank value in
    let keys = c.repertoire_of-repertoire.ensures.keys c.args.first (chars c.args.key.now) in
    let separators = separator-bytes r.encoding c.args.separator.now separator c.utf8.separator refl c.requires in
    let values = append-nil (value_bytes c.repertoire_of-repertoire.result blank value) ∙ c.repertoire_of-repertoire.ensures.values blank value in
    let parts = encoded_text-append r.encoding key (separator ++ back) ∙ ap (λ v. encoded_text r.encoding key ++ v) (encoded_text-append r.encoding separator back) in
    on_ok_weaker c.print_readable_texts.result
    (λ h. h ∙ ap (λ v. c.args.line.now ++ v) (ap₂ (λ v w. v ++ w) keys (ap₂ (λ v w. v ++ w) separators values) ∙ sym parts))
    c.print_readable_texts.ensures
