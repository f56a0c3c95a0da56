use Rattle.std.proofs.Common.{◌≡◌, ◌∙◌, ap}
use Rattle.std.specs.Prelude.{Some, bytes_eq, string_bytes}
use Rattle.std.specs.Map.{update}
use Rattle.std.specs.Str.{chars}
use Rattle.std.proofs.lemmas.Str.{IsUtf8-string_bytes}
use Rattle.properties_items.proofs.TextMaps.Values.{at_chars-updated}
use Rattle.properties_renaming.specs.Private.Keyed.{value_at}
use Rattle.properties_renaming.proofs.keyed.give_value.Goals as goal

pub returns : goal.returns
returns g c = λ k.
    let old = c.args.values.now in
    let copy = c.in_ok-from_str.field-0 in
    let same : string_bytes copy ≡ c.args.key.now = c.in_ok-from_str.ensures.ok in
    at_chars-updated old c.insert.new.self (string_bytes copy) (IsUtf8-string_bytes copy) (Some c.args.value) c.in_ok-insert.ensures.updates k
    ∙ ap (λ v. update bytes_eq (value_at old.entries) (chars v) (Some c.args.value) k) same
