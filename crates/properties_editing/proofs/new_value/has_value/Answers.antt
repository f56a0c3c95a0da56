use Rattle.std.proofs.Common.{◌∙◌, sym, subst}
use Rattle.std.specs.Str.{chars}
use Rattle.properties_format.specs.Escapes.{Breaks, Means}
use Rattle.properties_text.specs.Escaping.{malformed_in}
use Rattle.properties_items.proofs.TextMaps.Values.{same-characters}
use Rattle.properties_editing.proofs.BodyValues.{value-told, value-unbroken}
use Rattle.properties_editing.proofs.new_value.has_value.Goals as goal

pub unreachable-requires : goal.unreachable-requires
unreachable-requires c =
    let at = c.requires.separator in
    let refused = rw c.in-Err-Malformed.field-0-is at c.in-Err-Malformed.ensures.meaning in
    value-unbroken (chars c.args.line.now) at.key _ (malformed_in c.in-Err-Malformed.field-0-0) at.is_pair c.requires.sound
    (subst (λ v. Breaks (chars v) (malformed_in c.in-Err-Malformed.field-0-0)) c.range_from.ensures.value refused)

pub returns-in-Ok : goal.returns-in-Ok
returns-in-Ok c =
    let at = c.requires.separator in
    let value = chars c.args.value.now in
    let meant = chars c.as_str.result.now in
    let means = subst (λ v. Means (chars v) meant) c.range_from.ensures.value (rw c.as_str.ensures.value c.in-Ok.ensures.meaning) in
    c.eq.ensures
    ∙ same-characters c.as_str.result.now c.args.value.now c.as_str.utf8 c.utf8.value
    ∙ sym (value-told (chars c.args.line.now) at.key _ meant value at.is_pair c.requires.sound means)
