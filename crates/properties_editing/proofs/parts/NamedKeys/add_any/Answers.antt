use Rattle.std.proofs.Common.{refl, ◌≡◌, ◌++◌, ◌∷◌, [], ap, sym, subst, ◌∙◌}
use Rattle.std.specs.BTreeMap.{IsOrdered, Updates}
use Rattle.std.specs.BTreeMap.Entry.{entry_value}
use Rattle.std.specs.Prelude.{Some, string_bytes}
use Rattle.std.specs.String.{string_cmp}
use Rattle.std.specs.Str.{chars}
use Rattle.std.proofs.lemmas.Str.{IsUtf8-string_bytes}
use Rattle.properties_items.proofs.TextMaps.Values.{at_chars-sorted, at_chars-updated}
use Rattle.properties_items.specs.Texts.{characters}
use Rattle.properties_editing.specs.Private.BodyParts.{listed_places, places_of}
use Rattle.properties_editing.specs.declared.parts.KeyPlaces.{KeyPlaces}
use Rattle.properties_text.proofs.TextFronts.{at-error}
use Rattle.properties_editing.specs.Private.ChangedParts.{last_place}
use Rattle.properties_editing.proofs.PartLists.{no-last}
use Rattle.properties_editing.proofs.parts.NamedKeys.add_any.Goals as goal

pub returns-in_ok-add-in-Occupied-clause-added : goal.returns-in_ok-add-in-Occupied-clause-added
returns-in_ok-add-in-Occupied-clause-added c =
    let old = c.args.self.now in
    let key = c.in_ok-key.key in
    let utf8 = IsUtf8-string_bytes key in
    let same : string_bytes key ≡ c.args.key.now = c.in_ok-key.ensures.ok in
    let said : string_bytes c.in_ok-value.value ≡ c.args.value.now = c.in_ok-value.ensures.ok in
    let next : KeyPlaces = record { places = c.add.new.self.places; value = c.in_ok-value.value } in
    let put = rw c.in-Occupied.is at c.in_ok-entry.ensures.update in
    let made = c.self-in-Occupied-2-1.given.1 (sym (rw c.in-Occupied.is at c.in_ok-entry.ensures.same_map)) in
    let found = at_chars-sorted old.places (string_bytes key) utf8 ∙ sym c.in_ok-entry.ensures.value
    ∙ ap entry_value c.in-Occupied.is ∙ c.into_mut-places.ensures.value in
    record {
      pair = next;
      stored = rw (← same) (at_chars-updated old.places c.self-in-Occupied-2-1.given.0 (string_bytes key) utf8 (Some next)
          (subst (λ m. Updates string_cmp old.places m key (Some next)) (sym made) (put.0 next)));
      places = c.in_ok-add-in-Occupied.ensures.places ∙ ap (λ v. v ++ c.args.place ∷ []) (sym (ap places_of (rw same at found)));
      has_value = λ all. ap chars said;
      ordered = subst (IsOrdered string_cmp) (sym made) (put.2 next);
      all = refl;
      lengths = refl;
    }

pub returns-in-Vacant-clause-added : goal.returns-in-Vacant-clause-added
returns-in-Vacant-clause-added c =
    let old = c.args.self.now in
    let key = c.in_ok-key.key in
    let utf8 = IsUtf8-string_bytes key in
    let same : string_bytes key ≡ c.args.key.now = c.in_ok-key.ensures.ok in
    let said : string_bytes c.in_ok-value.value ≡ c.args.value.now = c.in_ok-value.ensures.ok in
    let next : KeyPlaces = c.insert.result.now in
    let value = c.insert.ensures.value in
    let put = rw c.in-Vacant.is at c.in_ok-entry.ensures.update in
    let made = c.self-in-Vacant-2-1.given.1 (sym (rw c.in-Vacant.is at c.in_ok-entry.ensures.same_map)) in
    let none = at_chars-sorted old.places (string_bytes key) utf8 ∙ (rw c.in-Vacant.is at c.in_ok-entry.ensures.found) in
    record {
      pair = next;
      stored = rw (← same) (at_chars-updated old.places c.self-in-Vacant-2-1.given.0 (string_bytes key) utf8 (Some next)
          (subst (λ m. Updates string_cmp old.places m key (Some next)) (sym made) (put.0 next)));
      places = ap listed_places value ∙ ap (λ v. v ++ c.args.place ∷ []) (c.new.ensures.items ∙ sym (ap places_of (rw same at none)));
      has_value = λ all. ap (λ p. characters p.value) value ∙ ap chars said;
      ordered = subst (IsOrdered string_cmp) (sym made) (put.2 next);
      all = refl;
      lengths = refl;
    }

pub returns-in_err-add-in-Occupied-clause-kept : goal.returns-in_err-add-in-Occupied-clause-kept
returns-in_err-add-in-Occupied-clause-kept c =
    let found = at_chars-sorted c.args.self.now.places (string_bytes c.in_ok-key.key) (IsUtf8-string_bytes c.in_ok-key.key) ∙ sym c.in_ok-entry.ensures.value
    ∙ ap entry_value c.in-Occupied.is ∙ c.into_mut-places.ensures.value in
    let same : string_bytes c.in_ok-key.key ≡ c.args.key.now = c.in_ok-key.ensures.ok in
    at-error c.from_residual-in_err-add-in-Occupied.result (λ none.
    let first = c.in_err-add-in-Occupied.ensures.first (no-last c.into_mut-places.result.now (sym (ap (λ p. last_place (places_of p)) (rw same at found)) ∙ none)) in
    absurd (cc))
