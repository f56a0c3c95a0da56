use Rattle.std.proofs.Common.{◌∷◌, map, string_bytes, ap, sym, subst, ◌∙◌, length, take, drop, ◌-◌}
use Rattle.propedit_arguments.specs.Private.Edits.{TakesEdit}
use Rattle.propedit_arguments.proofs.Words.{first}
use Rattle.propedit_arguments.proofs.edits.next_edit.Goals as goal

pub returns-in-len1-up : goal.returns-in-len1-up
returns-in-len1-up c =
    let words = c.args.words.now in
    let others = map string_bytes (take (length words - 1) (drop 1 words)) in
    let front = first words c.word-item.result _ c.in-len1-up.len_at_least c.word-item.is in
    let is = ap (map string_bytes) front ∙ ap (λ v. v ∷ others) (sym c.as_str.ensures.value) in
    subst (λ w. TakesEdit w c.edit_of.result) (sym is) c.edit_of.ensures
