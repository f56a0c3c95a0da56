use Rattle.std.proofs.Common.{refl, ap, sym, ◌∙◌}
use Rattle.std.specs.Option.{is_some, option_map}
use Rattle.std.specs.Prelude.{Some, bytes_eq}
use Rattle.std.specs.Map.{update}
use Rattle.std.specs.Str.{chars}
use Rattle.properties_items.proofs.TextMaps.Values.{at_chars-sorted, at_chars-updated}
use Rattle.properties_editing.specs.Private.BodyParts.{stored_of}
use Rattle.properties_editing.specs.Private.ChangedParts.{with_value}
use Rattle.properties_editing.proofs.PartLists.{none-changed}
use Rattle.properties_editing.proofs.parts.NamedKeys.set_value.Goals as goal

pub returns-in-Some : goal.returns-in-Some
returns-in-Some c =
    let old = c.args.self.now in
    let key = c.args.key.now in
    let found = at_chars-sorted old.places key c.utf8.key ∙ sym c.in-Some.ensures.value in
    let next = with_value c.args.value c.in-Some.places.now in
    let written = c.get_mut.follows.holds next in
    record {
      stored = λ k. at_chars-updated old.places (c.get_mut.follows.lender next) key c.utf8.key (Some next) (written.3 (ap is_some (sym c.in-Some.ensures.value))) k
          ∙ ap (λ v. update bytes_eq (stored_of old.places.entries) (chars key) v k) (sym (ap (option_map (with_value c.args.value)) found));
      ordered = written.4;
      all = refl;
    }

pub returns-in_default : goal.returns-in_default
returns-in_default c =
    let old = c.args.self.now in
    let none = at_chars-sorted old.places c.args.key.now c.utf8.key ∙ sym c.in_default.ensures.value in
    rw c.get_mut.follows.holds-at-none (record {
      stored = λ k. none-changed (stored_of old.places.entries) (chars c.args.key.now) (with_value c.args.value) k none;
      ordered = c.requires;
      all = refl;
    })
