use Rattle.std.proofs.Common.{◌≡◌, ◌<◌, ◌∙◌, ◌++◌, ◌∷◌, [], ap, arith, length, sym, take}
use Rattle.std.proofs.lemmas.List.{append-nil, map-append}
use Rattle.std.specs.Prelude.{string_bytes}
use Rattle.std.specs.Str.{chars}
use Rattle.properties_renaming.specs.declared.renames.Rename.{Rename}
use Rattle.properties_renaming.specs.Renames.{name_in, names_in, new_name}
use Rattle.properties_renaming.specs.KeyEdits.{renames_among, key_edit_in, key_edits_in}
use Rattle.properties_renaming.proofs.EditRuns.{no-rename, renames-more}
use Rattle.properties_renaming.proofs.KeyedValues.{mapped-more}
use Rattle.properties_renaming.proofs.key_edits.renames_of.Goals.{in-Rename+in_ok-clone+in_ok-clone-2+in_ok-push, in_default}
use Rattle.properties_renaming.proofs.key_edits.renames_of.Goals as goal

pub loop-edit-preserved : goal.loop-edit-preserved
loop-edit-preserved c =
    let run = c.args.run.now in
    let i = c.loop-edit.edit-index in
    let item = c.edit-item.result in
    let before = key_edits_in (take i run) in
    let old = c.loop-edit.renames.items in
    let below : i < length run = omega arith in
    let more = ap renames_among (mapped-more key_edit_in run i item below c.edit-item.is) ∙ renames-more before (key_edit_in item) in
    elim c.match-edit.branch [
      | in-Rename+in_ok-clone+in_ok-clone-2+in_ok-push w ↦
          let rename = w.in-Rename.rename in
          let one : Rename = record { old = w.in_ok-clone.field-0; new = w.in_ok-clone-2.field-0 } in
          let same : name_in rename ≡ name_in one =
          ap (λ v. new_name (chars v) (chars (string_bytes rename.new))) (sym w.in_ok-clone.ensures.cases)
          ∙ ap (λ v. new_name (chars (string_bytes one.old)) (chars v)) (sym w.in_ok-clone-2.ensures.cases) in
          let made = ap (λ s. names_in s.items) w.renames-is ∙ ap names_in w.in_ok-push.ensures.items ∙ map-append name_in old (one ∷ []) in
          let is = ap (λ e. renames_among (key_edit_in e ∷ [])) w.in-Rename.is ∙ ap (λ e. e ∷ []) same in
          let lead = ap (λ r. r ++ name_in one ∷ []) c.loop-edit.invariant in
          made ∙ (lead ∙ sym (more ∙ ap (λ r. renames_among before ++ r) is))
      | in_default w ↦
          ap (λ s. names_in s.items) w.renames-is
          ∙ (c.loop-edit.invariant ∙ sym (more ∙ ap (λ r. renames_among before ++ r) (no-rename item w.in_default.not-Rename) ∙ append-nil (renames_among before)))
    ]
