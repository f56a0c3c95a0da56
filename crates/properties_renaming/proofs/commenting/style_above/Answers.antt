use Rattle.std.proofs.Common.{[], ◌∷◌, refl, take}
use Rattle.properties_renaming.proofs.NewComments.{style-above}
use Rattle.properties_renaming.proofs.commenting.style_above.Goals as goal

pub returns : goal.returns
returns c = λ g h.
    let b = c.bytes_of-bytes.result.now in
    let n = c.leading_blanks.result in
    style-above c.args.other.now g b (record { indent = take n b; sign = 0x23; blank = 0x20 ∷ []; ending = c.ending_or.result.now }) n
    (c.bytes_of-bytes.ensures g h) c.leading_blanks.ensures.within c.leading_blanks.ensures.rest refl refl refl (c.ending_or.ensures g h)
