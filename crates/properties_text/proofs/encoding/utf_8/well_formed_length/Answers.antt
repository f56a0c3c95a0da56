use Rattle.std.proofs.Common.{◌≤◌, length, take}
use Rattle.std.specs.Str.{IsUtf8}
use Rattle.std.proofs.lemmas.List.{take_rest}
use Rattle.properties_text.proofs.TextFronts.{front-more, longest-after}
use Rattle.properties_text.proofs.encoding.utf_8.well_formed_length.Goals as goal
use Rattle.properties_text.proofs.encoding.utf_8.well_formed_length.Goals.{then-at-blocks_from, else-at-blocks_from}

pub returns-then-length-eq0 : goal.returns-then-length-eq0
returns-then-length-eq0 c =
    let bytes = c.args.bytes.now in
    let before = c.loop-blocks_from.invariant in
    let front : (c.if-at-blocks_from.at ≤ length bytes) × IsUtf8 (take c.if-at-blocks_from.at bytes) =
    elim c.if-at-blocks_from.branch [
      | then-at-blocks_from w ↦ let blocks = rw take_rest at w.blocks_length-at.ensures in rw w.at-is (front-more bytes _ before.0 before.1 _ blocks.0 blocks.1)
      | else-at-blocks_from w ↦ rw w.at-is before
    ] in
    let none = rw take_rest at c.sequence_length-length.ensures.none c.if-length-eq0.true in
    longest-after bytes _ front.0 front.1 none

pub loop-blocks_from-preserved : goal.loop-blocks_from-preserved
loop-blocks_from-preserved c =
    let bytes = c.args.bytes.now in
    let before = c.loop-blocks_from.invariant in
    let front : (c.if-at-blocks_from.at ≤ length bytes) × IsUtf8 (take c.if-at-blocks_from.at bytes) =
    elim c.if-at-blocks_from.branch [
      | then-at-blocks_from w ↦ let blocks = rw take_rest at w.blocks_length-at.ensures in rw w.at-is (front-more bytes _ before.0 before.1 _ blocks.0 blocks.1)
      | else-at-blocks_from w ↦ rw w.at-is before
    ] in
    let sequence = c.sequence_length-length.ensures in
    front-more bytes _ front.0 front.1 _ (rw take_rest at sequence.within) (rw take_rest at sequence.text)
