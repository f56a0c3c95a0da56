use Rattle.std.proofs.Common.{◌≡◌, ◌<◌, ◌∙◌, ◌++◌, ◌∷◌, [], ap, arith, length, sym, take}
use Rattle.std.proofs.lemmas.List.{append-nil, map-append}
use Rattle.std.specs.Prelude.{string_bytes}
use Rattle.std.specs.Str.{chars}
use Rattle.properties_renaming.specs.Commenting.{new_text, text_in, texts_in}
use Rattle.properties_renaming.specs.declared.commenting.NewComment.{NewComment}
use Rattle.properties_renaming.specs.KeyEdits.{comments_among, key_edit_in, key_edits_in}
use Rattle.properties_renaming.proofs.EditRuns.{no-comment, comments-more}
use Rattle.properties_renaming.proofs.KeyedValues.{mapped-more}
use Rattle.properties_renaming.proofs.key_edits.comments_of.Goals.{in-SetComment+in_ok-clone+in_ok-clone-2+in_ok-push, in_default}
use Rattle.properties_renaming.proofs.key_edits.comments_of.Goals as goal

pub loop-edit-preserved : goal.loop-edit-preserved
loop-edit-preserved c =
    let run = c.args.run.now in
    let i = c.loop-edit.edit-index in
    let item = c.edit-item.result in
    let before = key_edits_in (take i run) in
    let old = c.loop-edit.comments.items in
    let below : i < length run = omega arith in
    let more = ap comments_among (mapped-more key_edit_in run i item below c.edit-item.is) ∙ comments-more before (key_edit_in item) in
    elim c.match-edit.branch [
      | in-SetComment+in_ok-clone+in_ok-clone-2+in_ok-push w ↦
          let comment = w.in-SetComment.comment in
          let one : NewComment = record { key = w.in_ok-clone.field-0; text = w.in_ok-clone-2.field-0 } in
          let same : text_in comment ≡ text_in one =
          ap (λ v. new_text (chars v) (chars (string_bytes comment.text))) (sym w.in_ok-clone.ensures.cases)
          ∙ ap (λ v. new_text (chars (string_bytes one.key)) (chars v)) (sym w.in_ok-clone-2.ensures.cases) in
          let made = ap (λ s. texts_in s.items) w.comments-is ∙ ap texts_in w.in_ok-push.ensures.items ∙ map-append text_in old (one ∷ []) in
          let is = ap (λ e. comments_among (key_edit_in e ∷ [])) w.in-SetComment.is ∙ ap (λ e. e ∷ []) same in
          let lead = ap (λ r. r ++ text_in one ∷ []) c.loop-edit.invariant in
          made ∙ (lead ∙ sym (more ∙ ap (λ r. comments_among before ++ r) is))
      | in_default w ↦
          ap (λ s. texts_in s.items) w.comments-is
          ∙ (c.loop-edit.invariant ∙ sym (more ∙ ap (λ r. comments_among before ++ r) (no-comment item w.in_default.not-SetComment) ∙ append-nil (comments_among before)))
    ]
