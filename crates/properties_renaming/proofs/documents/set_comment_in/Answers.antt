use Rattle.std.proofs.Common.{◌∙◌}
use Rattle.std.proofs.lemmas.Result.{err_from_is_err_and}
use Rattle.std.specs.Str.{chars}
use Rattle.properties_renaming.specs.Commenting.{SetsComment}
use Rattle.properties_renaming.specs.declared.renaming.RenameError.TheVariants.{Source}
use Rattle.properties_renaming.proofs.ReopenedDocuments.{not-made, not-opened, reopened}
use Rattle.properties_renaming.proofs.documents.set_comment_in.Goals as goal

pub returns-in_err-commented : goal.returns-in_err-commented
returns-in_err-commented c =
    let options = c.options-options.result in
    let same = c.deref.ensures.value ∙ c.in_ok-bytes.ensures.same in
    let error = err_from_is_err_and c.from_residual-in_err-commented.result c.from_residual-in_err-commented.ensures.1 in
    rw (error.1, error.2)
    (not-made (Source) (λ o s. SetsComment o s (chars c.args.key.now) (chars c.args.text.now)) c.args.document.now options c.options-options.ensures c.deref.result.now same
    c.in_err-commented.field-0.0 c.in_err-commented.ensures)

pub returns-in_err-document : goal.returns-in_err-document
returns-in_err-document c =
    let options = c.options-options.result in
    let same = c.deref.ensures.value ∙ c.in_ok-bytes.ensures.same in
    let error = err_from_is_err_and c.from_residual-in_err-document.result c.from_residual-in_err-document.ensures.1 in
    rw (error.1, error.2)
    (not-opened (Source) (λ o s. SetsComment o s (chars c.args.key.now) (chars c.args.text.now)) c.args.document.now options c.options-options.ensures c.deref.result.now same
    c.in_ok-commented.commented c.deref-2.result.now c.in_err-document.field-0.0 c.in_ok-commented.ensures c.deref-2.ensures.value c.in_err-document.ensures.opens)

pub returns : goal.returns
returns c =
    let options = c.options-options.result in
    let same = c.deref.ensures.value ∙ c.in_ok-bytes.ensures.same in
    reopened (Source) (λ o s. SetsComment o s (chars c.args.key.now) (chars c.args.text.now)) c.args.document.now options c.options-options.ensures c.deref.result.now same
    c.in_ok-commented.commented c.deref-2.result.now c.in_ok-document.field-0 c.in_ok-commented.ensures c.deref-2.ensures.value c.in_ok-document.ensures.opens
