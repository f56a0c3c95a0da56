use Rattle.std.proofs.Common.{◌≡◌, ◌<◌, ℕ, List, true, false, length, ap, sym, ◌∙◌, refl, arith}
use Rattle.std.specs.Prelude.{Bool, not, Option, Some, None}
use Rattle.std.specs.{Option.is_some, Option.option_map, Str.chars, declared.string.String.String}
use Rattle.std.proofs.lemmas.List.{get_or-map, length-map}
use Rattle.java_properties.specs.Maps.{characters}
use Rattle.properties_changing.proofs.SoughtKeys.{without-more, without-one}
use Rattle.properties_changing.proofs.change.first_without_value.Goals as goal

no-text : {Z : Type 0} (value : Option (String Z)) (none : Bool) → is_some value ≡ not none → none ≡ true → option_map characters value ≡ None
no-text None none says is = refl
no-text (Some text) none says is = absurd (let no : true ≡ false = says ∙ ap not is in cc)

some-text : {Z : Type 0} (value : Option (String Z)) (none : Bool) → is_some value ≡ not none → none ≡ false
    → (text : List ℕ) × (option_map characters value ≡ Some text)
some-text None none says is = absurd (let no : false ≡ true = says ∙ ap not is in cc)
some-text (Some text) none says is = (characters text, refl)

pub returns-then-is_none : goal.returns-then-is_none
returns-then-is_none c =
    let keys = c.args.keys.now in
    let values = c.args.values.now in
    let place = c.loop-place.place in
    let key = c.index-keys-place.result in
    let below : place < length values = omega arith in
    let within : place < length keys = omega arith in
    let none = no-text c.index-values-place.result c.is_none.result c.is_none.ensures c.if-is_none.true in
    let at = ap characters c.index-keys-place.is ∙ sym (get_or-map characters keys place key (characters key) within) in
    let size = c.requires ∙ sym (length-map keys characters) in
    ap (λ v. Some (chars v)) c.as_str.ensures.value
    ∙ sym (c.loop-place.invariant
    ∙ without-one _ values (option_map characters) place c.index-values-place.result (characters key) size below c.index-values-place.is none at)

pub loop-place-preserved : goal.loop-place-preserved
loop-place-preserved c =
    let keys = c.args.keys.now in
    let values = c.args.values.now in
    let place = c.loop-place.place in
    let below : place < length values = omega arith in
    let some = some-text c.index-values-place.result c.is_none.result c.is_none.ensures c.if-is_none.false in
    let size = c.requires ∙ sym (length-map keys characters) in
    c.loop-place.invariant ∙ without-more _ values (option_map characters) place c.index-values-place.result some.0 size below c.index-values-place.is some.1
