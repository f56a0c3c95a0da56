use Rattle.std.proofs.Common.{◌∙◌, ◌∷◌, []}
use Rattle.std.proofs.lemmas.Result.{err_from_is_err_and}
use Rattle.std.specs.Str.{chars}
use Rattle.properties_renaming.specs.Commented.{RemovesWithComments}
use Rattle.properties_renaming.proofs.ReopenedDocuments.{not-opened, reopened}
use Rattle.properties_renaming.proofs.documents.remove_with_comment_in.Goals as goal

pub returns-in_err-document : goal.returns-in_err-document
returns-in_err-document c =
    let options = c.options-options.result in
    let same = c.deref.ensures.value ∙ c.in_ok-bytes.ensures.same in
    let error = err_from_is_err_and c.from_residual-in_err-document.result c.from_residual-in_err-document.ensures.1 in
    rw (error.1, error.2)
    (not-opened (λ error. error) (λ o s. RemovesWithComments o s (chars c.args.key.now ∷ [])) c.args.document.now options c.options-options.ensures c.deref.result.now same
    c.in_ok-rest.rest c.deref-2.result.now c.in_err-document.field-0.0 c.in_ok-rest.ensures c.deref-2.ensures.value c.in_err-document.ensures.opens)

pub returns : goal.returns
returns c =
    let options = c.options-options.result in
    let same = c.deref.ensures.value ∙ c.in_ok-bytes.ensures.same in
    reopened (λ error. error) (λ o s. RemovesWithComments o s (chars c.args.key.now ∷ [])) c.args.document.now options c.options-options.ensures c.deref.result.now same
    c.in_ok-rest.rest c.deref-2.result.now c.in_ok-document.field-0 c.in_ok-rest.ensures c.deref-2.ensures.value c.in_ok-document.ensures.opens
