use Rattle.std.proofs.Common.{◌-◌, ◌∙◌, ap, sym, length, length-take, length-drop, drop, arith}
use Rattle.std.proofs.lemmas.Str.{IsUtf8-between, IsUtf8-string_bytes, encodes-chars}
use Rattle.std.proofs.lemmas.List.{length-take-le}
use Rattle.std.specs.String.{string_bytes}
use Rattle.properties_text.specs.Parsing.{bytes_in}
use Rattle.properties_items.proofs.found.FoundText.size.Goals as goal

pub returns-in-None : goal.returns-in-None
returns-in-None c =
    let line = c.args.line.now in
    let span = c.args.self.now.span in
    let is = c.requires.span in
    let utf8 = IsUtf8-between line span.start span.end c.utf8.line is.ordered is.starts_whole is.ends_whole in
    let rest = length-drop span.start line in
    let ordered = is.ordered in
    let within = is.within in
    let size = length-take-le (span.end - span.start) (drop span.start line) (omega arith) in
    rw c.in-None.is (sym (ap length (encodes-chars (bytes_in line span) utf8) ∙ size))

pub returns-in-Some : goal.returns-in-Some
returns-in-Some c =
    let text = string_bytes c.in-Some.text in
    rw c.in-Some.is (ap length c.as_str.ensures.value ∙ sym (ap length (encodes-chars text (IsUtf8-string_bytes c.in-Some.text))))
