use Rattle.std.proofs.Common.{◌≡◌, ◌<◌, ◌∙◌, ◌++◌, ◌∷◌, [], ap, arith, length, map, sym, take}
use Rattle.std.proofs.lemmas.List.{append-nil, map-append}
use Rattle.std.specs.Str.{chars}
use Rattle.properties_items.specs.Texts.{characters}
use Rattle.properties_renaming.specs.KeyEdits.{removals_among, key_edit_in, key_edits_in}
use Rattle.properties_renaming.proofs.EditRuns.{no-removal, removals-more}
use Rattle.properties_renaming.proofs.KeyedValues.{mapped-more}
use Rattle.properties_renaming.proofs.key_edits.keys_of.Goals.{in-RemoveWithComment+in_ok-clone+in_ok-push, in_default}
use Rattle.properties_renaming.proofs.key_edits.keys_of.Goals as goal

pub loop-edit-preserved : goal.loop-edit-preserved
loop-edit-preserved c =
    let run = c.args.run.now in
    let i = c.loop-edit.edit-index in
    let item = c.edit-item.result in
    let before = key_edits_in (take i run) in
    let old = c.loop-edit.keys.items in
    let below : i < length run = omega arith in
    let more = ap removals_among (mapped-more key_edit_in run i item below c.edit-item.is) ∙ removals-more before (key_edit_in item) in
    elim c.match-edit.branch [
      | in-RemoveWithComment+in_ok-clone+in_ok-push w ↦
          let key = w.in-RemoveWithComment.key in
          let copy = w.in_ok-clone.field-0 in
          let same : characters key ≡ characters copy = ap chars (sym w.in_ok-clone.ensures.cases) in
          let made = ap (λ s. map characters s.items) w.keys-is ∙ ap (map characters) w.in_ok-push.ensures.items ∙ map-append characters old (copy ∷ []) in
          let is = ap (λ e. removals_among (key_edit_in e ∷ [])) w.in-RemoveWithComment.is ∙ ap (λ e. e ∷ []) same in
          let lead = ap (λ r. r ++ characters copy ∷ []) c.loop-edit.invariant in
          made ∙ (lead ∙ sym (more ∙ ap (λ r. removals_among before ++ r) is))
      | in_default w ↦
          ap (λ s. map characters s.items) w.keys-is
          ∙ (c.loop-edit.invariant ∙ sym (more ∙ ap (λ r. removals_among before ++ r) (no-removal item w.in_default.not-RemoveWithComment) ∙ append-nil (removals_among before)))
    ]
