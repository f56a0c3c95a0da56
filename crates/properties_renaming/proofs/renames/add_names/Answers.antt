use Rattle.std.proofs.Common.{◌≡◌, ◌∙◌, ℕ, Option, ap, false, subst, sym, true}
use Rattle.std.specs.Str.{chars}
use Rattle.properties_items.proofs.TextMaps.Values.{same-characters}
use Rattle.properties_renaming.specs.Renames.{new_name}
use Rattle.properties_renaming.specs.Private.Keyed.{GivesValue, value_at}
use Rattle.properties_renaming.specs.Private.Renames.{first_last, last_in}
use Rattle.properties_renaming.specs.declared.renames.Role.{Role}
use Rattle.properties_renaming.proofs.RenamesAtOnce.{names-added}
use Rattle.properties_renaming.proofs.renames.add_names.Goals as goal

pub returns : goal.returns
returns c =
    let old = chars c.args.old.now in
    let new = chars c.args.new.now in
    let roles = c.args.roles.now.entries in
    let mid = c.give_value.new.values.entries in
    let free : Option ℕ → Role = λ last. record { is_needed = false; last = last } in
    let needed : Option ℕ → Role = λ last. record { is_needed = true; last = last } in
    let later : c.last_in-later.result ≡ last_in (value_at roles new) = c.last_in-later.ensures ∙ ap last_in c.value_at.ensures in
    let last = c.first_last.ensures ∙ ap (first_last c.eq.result c.args.index) later in
    names-added roles mid c.give_value-2.new.values.entries c.args.index (new_name old new) c.eq.result
    (sym (same-characters c.args.old.now c.args.new.now c.utf8.old c.utf8.new) ∙ sym c.eq.ensures)
    (subst (λ l. GivesValue roles new (free l) mid) later c.in_ok-give_value.ensures)
    (subst (λ l. GivesValue mid old (needed l) c.give_value-2.new.values.entries) last c.in_ok-give_value-2.ensures)
