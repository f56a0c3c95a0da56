use Rattle.std.proofs.Common.{◌≡◌, ◌∷◌, true, codes, refl, ap, sym, subst, ◌∙◌}
use Rattle.propedit_arguments.specs.Private.Edits.{assignments, is_odd, odd_key, IsAssignment}
use Rattle.propedit_arguments.proofs.Words.{two-words}
use Rattle.propedit_arguments.proofs.edits.refuse_slips.Goals as goal

pub returns-in-len2-up : goal.returns-in-len2-up
returns-in-len2-up c =
    let key = c.as_str-in-len2-up in
    let value = c.as_str-in-len2-up-2 in
    let front =
    two-words c.args.words.now c.key-item.result c.value-item.result _ _ key.result.now value.result.now c.in-len2-up.len_at_least
    c.key-item.is c.value-item.is key.ensures.value value.ensures.value in
    let one = rw c.if-is_assignment.true at c.is_assignment.ensures in
    let other = rw c.if-is_assignment-2.true at c.is_assignment-then-is_assignment.ensures in
    assignments key.result value.result _ (ap (λ v. codes "set" ∷ v) front) (subst IsAssignment (c.as_str.ensures.value ∙ sym key.ensures.value) one)
    (subst IsAssignment (c.as_str-then-is_assignment.ensures.value ∙ sym value.ensures.value) other) refl

pub returns-in-len2-up-2 : goal.returns-in-len2-up-2
returns-in-len2-up-2 c =
    let key = c.as_str-in-len2-up-2-2 in
    let value = c.as_str-in-len2-up-2-3 in
    let front =
    two-words c.args.words.now c.key-item-2.result c.value-item-2.result _ _ key.result.now value.result.now c.in-len2-up.len_at_least
    c.key-item-2.is c.value-item-2.is key.ensures.value value.ensures.value in
    odd_key key.result value.result _ (ap (λ v. codes "set" ∷ v) front)
    (subst (λ t. is_odd t ≡ true) (c.as_str-2.ensures.value ∙ sym key.ensures.value) (sym c.is_odd.ensures ∙ c.if-is_odd.true)) refl
