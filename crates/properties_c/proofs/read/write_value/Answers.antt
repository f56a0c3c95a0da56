use Rattle.std.proofs.Common.{◌≡◌, ◌∙◌, rules, sym, string_bytes}
use Rattle.std.specs.{Prelude.encode_utf8_all, Str.chars}
use Rattle.properties_c.proofs.Texts.{encoded-text}
use Rattle.properties_c.proofs.read.write_value.Goals as goal

pub returns-in-Ok-Some : goal.returns-in-Ok-Some
returns-in-Ok-Some c =
    let value = c.in-Ok-Some.value in
    let same : encode_utf8_all (chars (string_bytes value)) ≡ c.as_bytes.result.now =
    encoded-text value ∙ sym (c.as_bytes.ensures.value ∙ c.as_str.ensures.value) in
    rw (c.in-Ok-Some.is, c.in-Ok-Some.field-0-is, same) (search rules)
