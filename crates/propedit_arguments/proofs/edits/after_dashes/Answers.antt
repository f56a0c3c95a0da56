use Rattle.std.proofs.Common.{◌∷◌, codes, map, string_bytes, ap, sym, ◌∙◌, length, take, drop, ◌-◌}
use Rattle.std.specs.Cmp.Lexicographic.{same_text}
use Rattle.propedit_arguments.specs.Private.Edits.{literal}
use Rattle.propedit_arguments.proofs.Words.{first}
use Rattle.propedit_arguments.proofs.edits.after_dashes.Goals as goal

pub returns-in-len1-up : goal.returns-in-len1-up
returns-in-len1-up c =
    let words = c.args.words.now in
    let others = map string_bytes (take (length words - 1) (drop 1 words)) in
    let front = first words c.first-item.result _ c.in-len1-up.len_at_least c.first-item.is in
    let dashes = sym c.as_str.ensures.value ∙ same_text c.as_str.result.now (codes "--") (sym c.if-eq.true ∙ c.eq.ensures) in
    (literal, ap (map string_bytes) front ∙ ap (λ v. v ∷ others) dashes, tt)
