use Rattle.std.proofs.Common.{[], ◌∷◌, codes, map, string_bytes, refl, ap, ◌∙◌}
use Rattle.propedit_arguments.specs.Private.Edits.{remove, text_words, no_key}
use Rattle.propedit_arguments.proofs.Words.{none}
use Rattle.propedit_arguments.proofs.edits.next_removal.Goals as goal

pub returns-in-empty : goal.returns-in-empty
returns-in-empty c =
    let (form, is, may) = c.after_dashes.ensures in
    let no_texts = ap (map string_bytes) (none c.after_dashes.result.now c.in-empty.len_below) in
    λ _. no_key _ (remove []) form refl (ap (λ v. codes "remove" ∷ v) (is ∙ ap (text_words form) no_texts)) refl
