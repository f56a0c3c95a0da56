use Rattle.std.proofs.Common.{[], ◌∷◌, codes, map, string_bytes, refl, ap, sym, subst, ◌∙◌}
use Rattle.propedit_arguments.specs.Private.Edits.{set_comment, text_words, MayBegin, no_key, no_text}
use Rattle.propedit_arguments.proofs.Words.{none, alone}
use Rattle.propedit_arguments.proofs.edits.next_comment.Goals as goal

pub returns-in-empty : goal.returns-in-empty
returns-in-empty c =
    let (form, is, may) = c.after_dashes.ensures in
    let no_texts = ap (map string_bytes) (none c.after_dashes.result.now c.in-empty.len_below) in
    λ _. no_key _ (set_comment [] []) form refl (ap (λ v. codes "set-comment" ∷ v) (is ∙ ap (text_words form) no_texts)) refl

pub returns-in-len1 : goal.returns-in-len1
returns-in-len1 c =
    let (form, is, may) = c.after_dashes.ensures in
    let texts = c.after_dashes.result.now in
    let key = ap (map string_bytes) (alone texts c.key-item.result _ c.in-len1.len_at_least c.in-len1.len_below c.key-item.is)
    ∙ ap (λ v. v ∷ []) (sym c.as_str.ensures.value) in
    λ _. no_text c.as_str.result form (ap (λ v. codes "set-comment" ∷ v) (is ∙ ap (text_words form) key)) (subst (MayBegin form) key may) refl
