use Rattle.std.proofs.Common.{[], ◌∷◌, codes, map, string_bytes, refl, ap, sym, subst, ◌∙◌}
use Rattle.std.proofs.lemmas.Result.{err_from_is_err_and}
use Rattle.propedit_arguments.specs.Private.Edits.{rename, text_words, MayBegin, no_key, no_new_key}
use Rattle.propedit_arguments.proofs.Words.{none, alone, first-two, takes-renaming}
use Rattle.propedit_arguments.proofs.edits.next_renaming.Goals as goal

pub returns-in_err-refuse_odd_name : goal.returns-in_err-refuse_odd_name
returns-in_err-refuse_odd_name c =
    let error = err_from_is_err_and c.from_residual.result c.from_residual.ensures.1 in
    rw (error.1, error.2) (λ _. c.in_err-refuse_odd_name.ensures)

pub returns-in-empty : goal.returns-in-empty
returns-in-empty c =
    let (form, is, may) = c.after_dashes.ensures in
    let no_texts = ap (map string_bytes) (none c.after_dashes.result.now c.in-empty.len_below) in
    λ _. no_key _ (rename [] []) form refl (ap (λ v. codes "rename" ∷ v) (is ∙ ap (text_words form) no_texts)) refl

pub returns-in-len1 : goal.returns-in-len1
returns-in-len1 c =
    let (form, is, may) = c.after_dashes.ensures in
    let texts = c.after_dashes.result.now in
    let key = ap (map string_bytes) (alone texts c.old-item.result _ c.in-len1.len_at_least c.in-len1.len_below c.old-item.is)
    ∙ ap (λ v. v ∷ []) (sym c.as_str.ensures.value) in
    λ _. no_new_key c.as_str.result form (ap (λ v. codes "rename" ∷ v) (is ∙ ap (text_words form) key)) (subst (MayBegin form) key may) refl

pub returns-in-len2-up : goal.returns-in-len2-up
returns-in-len2-up c =
    let (form, is, may) = c.after_dashes.ensures in
    let front = first-two c.after_dashes.result.now c.old-item-2.result c.new-item.result _ _ c.in-len2-up.len_at_least c.old-item-2.is c.new-item.is in
    takes-renaming form _ _ _ _ _ is may (ap (map string_bytes) front) c.in_ok-refuse_odd_name.ensures
