use Rattle.std.proofs.Common.{ap, sym, ◌∙◌}
use Rattle.std.specs.{Option.option_map, Option.unwrap_or, Prelude.None, Prelude.Some, Str.chars}
use Rattle.properties_items.proofs.TextMaps.Values.{at_chars-sorted}
use Rattle.properties_items.specs.Texts.{characters}
use Rattle.properties_tables.proofs.values.Sought.value_of.Goals as goal

pub returns-in_default : goal.returns-in_default
returns-in_default c =
    sym (ap (λ o. unwrap_or (option_map (option_map characters) o) None)
    (at_chars-sorted c.args.self.now.values c.args.key.now c.utf8.key ∙ sym c.in_default.ensures.value))

pub returns-in_ok-from_str-in-Some-held : goal.returns-in_ok-from_str-in-Some-held
returns-in_ok-from_str-in-Some-held c =
    ap (λ v. Some (chars v)) (c.in_ok-from_str-in-Some-held.ensures.ok ∙ c.as_str.ensures.value)
    ∙ sym (ap (λ o. unwrap_or (option_map (option_map characters) o) None)
    (at_chars-sorted c.args.self.now.values c.args.key.now c.utf8.key ∙ sym c.in-Some.ensures.value ∙ ap Some c.in-Some-held.is))

pub returns-in-None : goal.returns-in-None
returns-in-None c =
    sym (ap (λ o. unwrap_or (option_map (option_map characters) o) None)
    (at_chars-sorted c.args.self.now.values c.args.key.now c.utf8.key ∙ sym c.in-Some.ensures.value ∙ ap Some c.in-None.is))
