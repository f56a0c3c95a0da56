use Rattle.std.proofs.Common.{◌∙◌, ◌≢◌, subst, sym}
use Rattle.std.specs.Str.{chars}
use Rattle.properties_items.proofs.TextMaps.Values.{same-characters}
use Rattle.properties_renaming.proofs.RenamedKeys.{other-key}
use Rattle.properties_renaming.proofs.renames.is_named.Goals as goal

pub returns-else-eq : goal.returns-else-eq
returns-else-eq c = λ off.
    let key = c.args.key.now in
    let old = c.as_str.result.now in
    let new = c.as_str-else-eq.result.now in (
      subst (λ w. chars key ≢ chars w) c.as_str.ensures.value
          (other-key (chars key) (chars old) (sym (same-characters key old c.utf8.key c.as_str.utf8) ∙ sym c.eq.ensures ∙ c.if-eq.false)),
      subst (λ w. chars key ≢ chars w) c.as_str-else-eq.ensures.value
          (other-key (chars key) (chars new) (sym (same-characters key new c.utf8.key c.as_str-else-eq.utf8) ∙ sym c.eq-else-eq.ensures ∙ off)),
    )
