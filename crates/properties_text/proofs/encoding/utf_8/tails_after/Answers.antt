use Rattle.std.proofs.Common.{◌≡◌, map, arith}
use Rattle.std.specs.Simd.Lanes.{mask_l}
use Rattle.byte_blocks.specs.Classes.{is_non_ascii}
use Rattle.properties_text.proofs.Tails.{within, begins_three, block-goes_on, ascii-goes_on}
use Rattle.properties_text.proofs.encoding.utf_8.tails_after.Goals as goal

pub returns-then-past-wanted-eq0-clause-goes_on : goal.returns-then-past-wanted-eq0-clause-goes_on
returns-then-past-wanted-eq0-clause-goes_on c n is =
    let past : c.bits_of-past.result ≡ mask_l (map is_non_ascii c.args.block) = c.bits_of-past.ensures.value in
    ascii-goes_on c.args.block c.args.wanted n (omega (arith, past, c.if-past-wanted-eq0.true)) is

pub returns-clause-goes_on : goal.returns-clause-goes_on
returns-clause-goes_on c n is =
    let block = c.args.block in
    let past : c.bits_of-past.result ≡ mask_l (map is_non_ascii block) = c.bits_of-past.ensures.value in
    let tails : c.bits_of-tails.result ≡ mask_l (map (within 0x80 0xbf) block) = c.bits_of-tails.ensures.value in
    let twos : c.bits_of-twos.result ≡ mask_l (map (within 0xc2 0xdf) block) = c.bits_of-twos.ensures.value in
    let threes : c.bits_of-threes.result ≡ mask_l (map begins_three block) = c.bits_of-threes.ensures.value in
    let fours : c.bits_of-fours.result ≡ mask_l (map (within 0xf1 0xf3) block) = c.bits_of-fours.ensures.value in
    let one = c.if-past-tails.false in
    let two = c.if-all-tails.false in
    block-goes_on block n _ c.fits-block.0 (omega (arith, past, tails, twos, threes, fours, one)) (omega (arith, tails, twos, threes, fours, is, two))
