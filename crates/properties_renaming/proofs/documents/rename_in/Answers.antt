use Rattle.std.proofs.Common.{◌∙◌}
use Rattle.std.proofs.lemmas.Result.{err_from_is_err_and}
use Rattle.std.specs.Str.{chars}
use Rattle.properties_renaming.specs.Renaming.{RenamesKey}
use Rattle.properties_renaming.specs.declared.renaming.RenameError.TheVariants.{Source}
use Rattle.properties_renaming.proofs.ReopenedDocuments.{not-made, not-opened, reopened}
use Rattle.properties_renaming.proofs.documents.rename_in.Goals as goal

pub returns-in_err-renamed : goal.returns-in_err-renamed
returns-in_err-renamed c =
    let options = c.options-options.result in
    let same = c.deref.ensures.value ∙ c.in_ok-bytes.ensures.same in
    let error = err_from_is_err_and c.from_residual-in_err-renamed.result c.from_residual-in_err-renamed.ensures.1 in
    rw (error.1, error.2)
    (not-made (Source) (λ o s. RenamesKey o s (chars c.args.old.now) (chars c.args.new.now)) c.args.document.now options c.options-options.ensures c.deref.result.now same
    c.in_err-renamed.field-0.0 c.in_err-renamed.ensures)

pub returns-in_err-document : goal.returns-in_err-document
returns-in_err-document c =
    let options = c.options-options.result in
    let same = c.deref.ensures.value ∙ c.in_ok-bytes.ensures.same in
    let error = err_from_is_err_and c.from_residual-in_err-document.result c.from_residual-in_err-document.ensures.1 in
    rw (error.1, error.2)
    (not-opened (Source) (λ o s. RenamesKey o s (chars c.args.old.now) (chars c.args.new.now)) c.args.document.now options c.options-options.ensures c.deref.result.now same
    c.in_ok-renamed.renamed c.deref-2.result.now c.in_err-document.field-0.0 c.in_ok-renamed.ensures c.deref-2.ensures.value c.in_err-document.ensures.opens)

pub returns : goal.returns
returns c =
    let options = c.options-options.result in
    let same = c.deref.ensures.value ∙ c.in_ok-bytes.ensures.same in
    reopened (Source) (λ o s. RenamesKey o s (chars c.args.old.now) (chars c.args.new.now)) c.args.document.now options c.options-options.ensures c.deref.result.now same
    c.in_ok-renamed.renamed c.deref-2.result.now c.in_ok-document.field-0 c.in_ok-renamed.ensures c.deref-2.ensures.value c.in_ok-document.ensures.opens
