use Rattle.std.proofs.Common.{◌∙◌, ap, sym}
use Rattle.std.specs.Prelude.{Some, bytes_eq}
use Rattle.std.specs.Str.{chars}
use Rattle.std.proofs.lemmas.Map.{update_other}
use Rattle.properties_items.proofs.TextMaps.Values.{same-characters}
use Rattle.java_properties.proofs.iter.lookup.SoughtPairTaker.take.Goals as goal

pub returns-else-eq : goal.returns-else-eq
returns-else-eq c = λ first values has.
    let other = ap (λ k. bytes_eq c.args.key.now k.now) (sym has.1) ∙ sym c.eq.ensures ∙ c.if-eq.false in
    let apart = sym (same-characters c.args.key.now first.key.now c.utf8.key has.0) ∙ other in
    (has.0, has.1, has.2 ∙ sym (update_other bytes_eq values (chars c.args.key.now) (Some (chars c.args.value.now)) (chars first.key.now) apart))
