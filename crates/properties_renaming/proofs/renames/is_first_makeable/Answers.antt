use Rattle.std.proofs.Common.{◌∙◌, ap, false, inl, inr, sym, true}
use Rattle.std.specs.Str.{chars}
use Rattle.properties_editing.proofs.NewPairs.{text-some}
use Rattle.properties_items.proofs.Scalars.{chars-scalars}
use Rattle.properties_items.proofs.TextMaps.Values.{same-characters}
use Rattle.properties_renaming.specs.Laws.{IsName}
use Rattle.properties_renaming.specs.Private.Renames.{asks}
use Rattle.properties_renaming.proofs.RenamedKeys.{not-true, other-key}
use Rattle.properties_renaming.proofs.RenamesAtOnce.{asks-not}
use Rattle.properties_renaming.proofs.renames.is_first_makeable.Goals as goal

pub returns : goal.returns
returns c = λ on all ns roles.
    let old = chars c.args.old.now in
    let new = chars c.args.new.now in
    let name : IsName new = (text-some c.args.new.now c.utf8.new c.if-is_empty.ensures, chars-scalars c.args.new.now c.utf8.new) in
    let apart = other-key old new (sym (same-characters c.args.old.now c.args.new.now c.utf8.old c.utf8.new) ∙ sym c.eq.ensures ∙ c.if-eq.false) in
    let gone = ap (λ r. asks r true) (sym c.value_at-else-is_empty.ensures) ∙ sym c.asks-else-is_empty.ensures ∙ c.if-asks.false in
    let free = ap (λ r. asks r false) (sym c.value_at-2.ensures) ∙ sym c.asks-2.ensures ∙ not-true c.asks-2.result (sym on) in
    inr (apart, inl name, asks-not all ns old _ true (roles old) gone, asks-not all ns new _ false (roles new) free)
