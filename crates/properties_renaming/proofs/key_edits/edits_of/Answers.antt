use Rattle.std.proofs.Common.{◌<◌, ◌∙◌, ◌++◌, ◌∷◌, [], ap, arith, length, sym, take}
use Rattle.std.proofs.lemmas.List.{append-nil, map-append}
use Rattle.properties_editing.specs.Editing.{edit_in, edits_in}
use Rattle.properties_editing.proofs.EditComparisons.{edit-clone}
use Rattle.properties_renaming.specs.KeyEdits.{edits_among, key_edit_in, key_edits_in}
use Rattle.properties_renaming.proofs.EditRuns.{edits-more, no-edit, same-edit}
use Rattle.properties_renaming.proofs.KeyedValues.{mapped-more}
use Rattle.properties_renaming.proofs.key_edits.edits_of.Goals.{in-Edit+in_ok-clone+in_ok-push, in_default}
use Rattle.properties_renaming.proofs.key_edits.edits_of.Goals as goal

pub loop-edit-preserved : goal.loop-edit-preserved
loop-edit-preserved c =
    let run = c.args.run.now in
    let i = c.loop-edit.edit-index in
    let item = c.edit-item.result in
    let before = key_edits_in (take i run) in
    let old = c.loop-edit.edits.items in
    let below : i < length run = omega arith in
    let more = ap edits_among (mapped-more key_edit_in run i item below c.edit-item.is) ∙ edits-more before (key_edit_in item) in
    elim c.match-edit.branch [
      | in-Edit+in_ok-clone+in_ok-push w ↦
          let edit = w.in-Edit.edit in
          let copy = w.in_ok-clone.field-0 in
          let same = same-edit edit copy (edit-clone edit copy w.in_ok-clone.ensures.cases) in
          let made = ap (λ s. edits_in s.items) w.edits-is ∙ ap edits_in w.in_ok-push.ensures.items ∙ map-append edit_in old (copy ∷ []) in
          let is = ap (λ e. edits_among (key_edit_in e ∷ [])) w.in-Edit.is ∙ ap (λ e. e ∷ []) same in
          let lead = ap (λ r. r ++ edit_in copy ∷ []) c.loop-edit.invariant in
          made ∙ (lead ∙ sym (more ∙ ap (λ r. edits_among before ++ r) is))
      | in_default w ↦
          ap (λ s. edits_in s.items) w.edits-is
          ∙ (c.loop-edit.invariant ∙ sym (more ∙ ap (λ r. edits_among before ++ r) (no-edit item w.in_default.not-Edit) ∙ append-nil (edits_among before)))
    ]
