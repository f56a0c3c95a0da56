use Rattle.std.proofs.Common.{◌≡◌, false, refl, sym, ◌∙◌}
use Rattle.std.specs.{Prelude.bytes_eq, Str.chars}
use Rattle.properties_items.proofs.TextMaps.Values.{same-characters}
use Rattle.properties_changing.proofs.counts.state_of.Goals as goal

pub returns-else-eq : goal.returns-else-eq
returns-else-eq c =
    let other : bytes_eq (chars c.args.old.now) (chars c.args.new.now) ≡ false =
    sym (same-characters c.args.old.now c.args.new.now c.utf8.old c.utf8.new) ∙ sym c.eq.ensures ∙ c.if-eq.false in
    rw other refl
