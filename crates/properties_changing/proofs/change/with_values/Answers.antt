use Rattle.std.proofs.Common.{◌<◌, [], ◌∷◌, ◌++◌, length, ap, sym, ◌∙◌, drop, ◌+◌, arith, append_assoc}
use Rattle.std.proofs.lemmas.List.{map-append}
use Rattle.java_properties.specs.Editing.{edit_in, edits_in}
use Rattle.properties_editing.proofs.EditComparisons.{edit-clone}
use Rattle.properties_changing.specs.Private.Collected.{with_values}
use Rattle.properties_tables.specs.Values.{value_texts}
use Rattle.properties_renaming.proofs.EditRuns.{same-edit}
use Rattle.properties_changing.proofs.{KnownEdits.none-more, KnownEdits.one-more, change.with_values.Goals.then-is_some+in_ok-clone+in_ok-push}
use Rattle.properties_changing.proofs.change.with_values.Goals.{else-is_some}
use Rattle.properties_changing.proofs.change.with_values.Goals as goal

pub loop-place-preserved : goal.loop-place-preserved
loop-place-preserved c =
    let edits = c.args.edits.now in
    let values = c.args.values.now in
    let place = c.loop-place.place in
    let value = c.index-values-place.result in
    let some = c.loop-place.some.items in
    let within : place < length values = omega arith in
    let below : place < length edits = omega arith in
    let rest = with_values (edits_in (drop (place + 1) edits)) (value_texts (drop (place + 1) values)) in
    elim c.if-is_some.branch [
      | then-is_some+in_ok-clone+in_ok-push w ↦
          let edit = w.index-edits-place.result in
          let copy = w.in_ok-clone.field-0 in
          let same = same-edit edit copy (edit-clone edit copy w.in_ok-clone.ensures.cases) in
          let made = ap (λ s. edits_in s.items) w.some-is ∙ ap edits_in w.in_ok-push.ensures.items ∙ map-append edit_in some (copy ∷ [])
          ∙ ap (λ v. edits_in some ++ v ∷ []) (sym same) in
          c.loop-place.invariant
          ∙ ap (λ v. edits_in some ++ v)
          (one-more edits values place edit value below within w.index-edits-place.is c.index-values-place.is (sym c.is_some.ensures ∙ w.if-is_some.true))
          ∙ sym (append_assoc (edits_in some) (edit_in edit ∷ []) rest) ∙ ap (λ v. v ++ rest) (sym made)
      | else-is_some w ↦
          c.loop-place.invariant
          ∙ ap (λ v. edits_in some ++ v)
          (none-more edits values place value below within c.index-values-place.is (sym c.is_some.ensures ∙ w.if-is_some.false))
          ∙ ap (λ s. edits_in s.items ++ rest) (sym w.some-is)
    ]
