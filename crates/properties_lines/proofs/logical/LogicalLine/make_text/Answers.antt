use Rattle.std.proofs.Common.{◌++◌, ℕ, List, sym, subst, ap, ◌∙◌}
use Rattle.std.specs.Str.{chars}
use Rattle.std.proofs.lemmas.Str.{chars-nil}
use Rattle.properties_format.specs.Encoding.{windows_1252}
use Rattle.properties_format.specs.Computed.Cut.{decoded_line}
use Rattle.properties_text.specs.Escaping.{text_in}
use Rattle.properties_lines.specs.LogicalLine.{bytes_with, IsTextOf}
use Rattle.properties_lines.proofs.LineTexts.{ascii-text, decoded-text, not-utf_8}
use Rattle.properties_lines.proofs.logical.LogicalLine.make_text.Goals as goal

pub returns-then-is_some-clause-text : goal.returns-then-is_some-clause-text
returns-then-is_some-clause-text c =
    let line = c.args.self.now in
    let P : List ℕ → Type 0 = λ v. IsTextOf (text_in line.encoding v) v in
    subst P (c.undecoded-line.ensures line.decoded) (ascii-text line.encoding c.undecoded-line.result.now (c.as_text.ensures.exactly.0 (sym c.if-is_some.ensures)))

pub returns-clause-text : goal.returns-clause-text
returns-clause-text c =
    let line = c.args.self.now in
    let bytes = bytes_with line c.args.natural.now in
    let read = c.undecoded-line.ensures line.decoded in
    let decoded = c.in_ok-push_decoded.ensures.appended ∙ ap (λ v. chars v ++ decoded_line windows_1252 c.undecoded-line.result.now) c.clear.ensures
    ∙ ap (λ v. v ++ decoded_line windows_1252 c.undecoded-line.result.now) chars-nil ∙ ap (decoded_line windows_1252) read in
    decoded-text line.encoding bytes c.push_decoded.new.self (not-utf_8 line.encoding c.if-eq.ensures) c.push_decoded.ensures.utf8 decoded
