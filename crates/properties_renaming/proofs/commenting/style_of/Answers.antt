use Rattle.std.proofs.Common.{get_or, refl, take}
use Rattle.properties_renaming.proofs.NewComments.{style-line}
use Rattle.properties_renaming.proofs.commenting.style_of.Goals as goal

pub bytes_of-bytes-requires : goal.bytes_of-bytes-requires
bytes_of-bytes-requires c = (c.requires.0, c.requires.1.0)

pub ending_or-requires : goal.ending_or-requires
ending_or-requires c = (c.requires.0, c.requires.1.0)

pub returns : goal.returns
returns c = λ g h.
    let b = c.bytes_of-bytes.result.now in
    let n = c.leading_blanks-sign.result in
    style-line c.args.other.now g b (record { indent = take n b; sign = get_or b n 0; blank = c.first_blank.result.now; ending = c.ending_or.result.now }) n
    (c.bytes_of-bytes.ensures g h.0) c.leading_blanks-sign.ensures.within c.leading_blanks-sign.ensures.rest h.1 refl refl c.first_blank.ensures
    (c.ending_or.ensures g h.0)
