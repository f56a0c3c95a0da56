-- Edits of keys that a pair has.
use Rattle.std.proofs.Common.{◌≡◌, ℕ, ◌+◌, ◌<◌, true, false, List, [], ◌∷◌, length, get_or, drop, refl, ap, sym, ◌∙◌, arith, inl, inr}
use Rattle.std.specs.{Prelude.Option, Prelude.Some, Prelude.None, Option.is_some, Option.option_map, declared.string.String.String}
use Rattle.std.proofs.lemmas.List.{drop_more}
use Rattle.properties_format.specs.{Edits.Edit, Encoding.Encoding}
use Rattle.java_properties.specs.{Editing.edit_in, Editing.edits_in, Maps.characters}
use Rattle.properties_editing.specs.declared.edit.Edit as editor
use Rattle.properties_changing.specs.{Private.Collected.with_values, Change.edited_keys, Change.AreKnown}
use Rattle.properties_tables.specs.Values.{value_texts, HaveValues}

-- Those that have a value in their place are those of which a pair has the key.
pub known-are : (e : Encoding) (source : List ℕ) (edits : List Edit) (values : List (Option (List ℕ))) → HaveValues e source (edited_keys edits) values
    → AreKnown e source edits (with_values edits values)
known-are e source [] [] h = refl
known-are e source [] (value ∷ values) h = absurd h
known-are e source (edit ∷ edits) [] h = absurd h
known-are e source (edit ∷ edits) (Some value ∷ values) h = inl ((value, h.0), (with_values edits values, known-are e source edits values h.1, refl))
known-are e source (edit ∷ edits) (None ∷ values) h = inr (h.0, known-are e source edits values h.1)

with-some : {Z : Type 0} (edit : Edit) (edits : List Edit) (value : Option (String Z)) (values : List (Option (List ℕ))) → is_some value ≡ true
    → with_values (edit ∷ edits) (option_map characters value ∷ values) ≡ edit ∷ with_values edits values
with-some edit edits (Some text) values some = refl
with-some edit edits None values some = absurd (cc)

with-none : {Z : Type 0} (edit : Edit) (edits : List Edit) (value : Option (String Z)) (values : List (Option (List ℕ))) → is_some value ≡ false
    → with_values (edit ∷ edits) (option_map characters value ∷ values) ≡ with_values edits values
with-none edit edits (Some text) values none = absurd (cc)
with-none edit edits None values none = refl

-- what is left at a place
abbrev pub left : {Z : Type 0} → List editor.Edit → List (Option (String Z)) → ℕ → List Edit
left edits values i = with_values (edits_in (drop i edits)) (value_texts (drop i values))

step : {Z : Type 0} (edits : List editor.Edit) (values : List (Option (String Z))) (i : ℕ) (d : editor.Edit) (value : Option (String Z)) → i < length edits
    → i < length values → value ≡ get_or values i value
    → left edits values i
    ≡ with_values (edit_in (get_or edits i d) ∷ edits_in (drop (i + 1) edits)) (option_map characters value ∷ value_texts (drop (i + 1) values))
step edits values i d value below within is =
    ap (λ v. with_values (edits_in v) (value_texts (drop i values))) (drop_more edits i d below)
    ∙ ap (λ v. with_values (edit_in (get_or edits i d) ∷ edits_in (drop (i + 1) edits)) (value_texts v))
    (drop_more values i value within ∙ ap (λ v. v ∷ drop (i + 1) values) (sym is))

pub one-more : {Z : Type 0} (edits : List editor.Edit) (values : List (Option (String Z))) (i : ℕ) (edit : editor.Edit) (value : Option (String Z))
    → i < length edits → i < length values → edit ≡ get_or edits i edit → value ≡ get_or values i value → is_some value ≡ true
    → left edits values i ≡ edit_in edit ∷ left edits values (i + 1)
one-more edits values i edit value below within at is some =
    step edits values i edit value below within is
    ∙ with-some (edit_in (get_or edits i edit)) (edits_in (drop (i + 1) edits)) value (value_texts (drop (i + 1) values)) some
    ∙ ap (λ v. edit_in v ∷ left edits values (i + 1)) (sym at)

pub none-more : {Z : Type 0} (edits : List editor.Edit) (values : List (Option (String Z))) (i : ℕ) (value : Option (String Z)) → i < length edits
    → i < length values → value ≡ get_or values i value → is_some value ≡ false → left edits values i ≡ left edits values (i + 1)
none-more [] values i value below within is none = absurd (omega (arith, below))
none-more (e ∷ es) values i value below within is none =
    step (e ∷ es) values i e value below within is
    ∙ with-none (edit_in (get_or (e ∷ es) i e)) (edits_in (drop (i + 1) (e ∷ es))) value (value_texts (drop (i + 1) values)) none
