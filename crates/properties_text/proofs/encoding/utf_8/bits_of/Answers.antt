use Rattle.std.proofs.Common.{◌<◌, ◌^◌, subst, ap, ◌∙◌, arith}
use Rattle.std.specs.Simd.Lanes.{mask_l}
use Rattle.std.proofs.lemmas.Simd.{mask_l-lt}
use Rattle.properties_text.proofs.encoding.utf_8.bits_of.Goals as goal

pub returns-clause-value : goal.returns-clause-value
returns-clause-value g c = c.bits.ensures.value ∙ ap mask_l c.marks.ensures

pub returns-clause-small : goal.returns-clause-small
returns-clause-small g c =
    let marks = c.marks.result in
    let below = subst (λ n. mask_l marks < 2 ^ n) c.bits.ensures.sixteen (mask_l-lt marks) in
    omega (arith, below, c.bits.ensures.value)
