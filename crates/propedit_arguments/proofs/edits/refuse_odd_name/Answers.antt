use Rattle.std.proofs.Common.{◌≡◌, ◌≢◌, ◌∷◌, true, codes, refl, ap, sym, subst, ◌∙◌}
use Rattle.propedit_arguments.specs.Private.Edits.{is_odd, odd_name}
use Rattle.propedit_arguments.proofs.Words.{two-words}
use Rattle.propedit_arguments.proofs.edits.refuse_odd_name.Goals as goal

pub returns-in-len2-up : goal.returns-in-len2-up
returns-in-len2-up c =
    let old = c.as_str-in-len2-up in
    let new = c.as_str-in-len2-up-2 in
    let front =
    two-words c.args.words.now c.old-item.result c.new-item.result _ _ old.result.now new.result.now c.in-len2-up.len_at_least
    c.old-item.is c.new-item.is old.ensures.value new.ensures.value in
    let told = rw c.if-is_odd_name.true at c.is_odd_name.ensures in
    odd_name old.result new.result _ (ap (λ v. codes "rename" ∷ v) front)
    (subst (λ t. t ≢ codes "--") (c.as_str.ensures.value ∙ sym old.ensures.value) told.0)
    (subst (λ t. is_odd t ≡ true) (c.as_str-2.ensures.value ∙ sym new.ensures.value) told.1) refl
