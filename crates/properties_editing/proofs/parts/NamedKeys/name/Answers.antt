use Rattle.std.proofs.Common.{None, ◌%◌, ◌^◌, ap, length, refl, sym, ◌∙◌, ◌≡◌}
use Rattle.std.specs.Prelude.{Some, bit_or, bytes_eq, string_bytes}
use Rattle.std.specs.Map.{update}
use Rattle.std.specs.Str.{chars}
use Rattle.std.proofs.lemmas.Str.{IsUtf8-string_bytes, encodes-chars}
use Rattle.properties_items.proofs.TextMaps.Values.{at_chars-updated}
use Rattle.properties_editing.specs.Private.BodyParts.{stored_of}
use Rattle.properties_editing.specs.declared.parts.KeyPlaces.{KeyPlaces}
use Rattle.properties_editing.proofs.NamedKeys.{names-key}
use Rattle.properties_editing.proofs.parts.NamedKeys.name.Goals as goal

pub returns : goal.returns
returns c =
    let old = c.args.self.now in
    let copy = c.in_ok-from_str.field-0 in
    let same : string_bytes copy ≡ c.args.key.now = c.in_ok-from_str.ensures.ok in
    let next : KeyPlaces = record { places = None; value = c.new.result } in
    let put = at_chars-updated old.places c.insert.new.self (string_bytes copy) (IsUtf8-string_bytes copy) (Some next) c.in_ok-insert.ensures.updates in
    let bit = c.length_bit.ensures ∙ ap (λ v. 2 ^ (length v % 64)) (sym (encodes-chars c.args.key.now c.utf8.key)) in
    names-key (chars c.args.key.now) next old _ c.requires.unplaced c.requires.some refl refl
    (λ k. put k ∙ ap (λ v. update bytes_eq (stored_of old.places.entries) (chars v) (Some next) k) same)
    (ap (bit_or old.lengths) bit) c.in_ok-insert.ensures.ordered
