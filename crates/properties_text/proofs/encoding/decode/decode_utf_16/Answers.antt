use Rattle.std.proofs.Common.{◌≡◌, ◌∷◌, ◌++◌, ◌*◌, ◌<◌, length, take, drop, get_or, sym, ap, ◌∙◌, arith}
use Rattle.std.proofs.Math.Seq.{take-add}
use Rattle.std.specs.Str.{chars}
use Rattle.std.proofs.lemmas.List.{drop_more, length-drop, take_rest}
use Rattle.properties_text.specs.Encoding.{encoding_of, text_of, utf_16_of, lows_of, highs_of}
use Rattle.properties_text.proofs.TextFronts.{decoded-one}
use Rattle.properties_text.proofs.UnitBlocks.{units-decoded}
use Rattle.properties_text.proofs.encoding.decode.decode_utf_16.Goals as goal

pub loop-rest-preserved : goal.loop-rest-preserved
loop-rest-preserved c =
    let held = c.loop-rest.invariant in
    let put = c.put_latin_1-at.ensures in
    let units = c.split_units-units in
    let bytes = c.loop-rest.rest.now in
    let kept = c.clear_front-kept.result in
    let whole = sym (take-add 16 16 bytes) in
    let front = units-decoded c.args.order units.result.lows units.result.highs c.marks.result kept 32 bytes
    (units.ensures.lows ∙ ap (lows_of c.args.order) whole) (units.ensures.highs ∙ ap (highs_of c.args.order) whole) c.marks.ensures
    (omega (arith, c.clear_front-kept.ensures.value)) (omega (arith, c.clear_front-kept.ensures.within)) c.loop-rest-test.true units.ensures.small
    _ _ _ held.is_text put.scalars put.text held.text in
    record {
      same_room = put.same_room ∙ held.same_room;
      within = omega (arith, put.within, put.same_room, c.if-run-at-ge64.true, c.clear_front-kept.ensures.within);
      onwards = omega (arith, held.onwards, put.after);
      left = rw (take_rest, length-drop (2 * kept) bytes)
          (omega (arith, put.within, held.left, c.loop-rest-test.true, c.clear_front-kept.ensures.within));
      is_text = front.0;
      text = rw take_rest front.1;
    }

pub loop-rest-preserved-then-kept-lt16 : goal.loop-rest-preserved-then-kept-lt16
loop-rest-preserved-then-kept-lt16 c =
    let held = c.loop-rest.invariant in
    let put = c.put_latin_1-at.ensures in
    let one = c.put_character-at.ensures in
    let next = c.first_piece-next in
    let units = c.split_units-units in
    let bytes = c.loop-rest.rest.now in
    let kept = c.clear_front-kept.result in
    let within = c.clear_front-kept.ensures.within in
    let whole = sym (take-add 16 16 bytes) in
    let front = units-decoded c.args.order units.result.lows units.result.highs c.marks.result kept 32 bytes
    (units.ensures.lows ∙ ap (lows_of c.args.order) whole) (units.ensures.highs ∙ ap (highs_of c.args.order) whole) c.marks.ensures
    (omega (arith, c.clear_front-kept.ensures.value)) (omega (arith, within)) c.loop-rest-test.true units.ensures.small
    _ _ _ held.is_text put.scalars put.text held.text in
    let rest = drop (2 * kept) bytes in
    let first = get_or rest 0 0 in
    let some : 0 < length rest = omega (arith, length-drop (2 * kept) bytes, c.loop-rest-test.true, c.if-kept-lt16.true) in
    let split : rest ≡ first ∷ drop 1 rest = drop_more rest 0 0 some in
    let shown = rw (take_rest bytes (2 * kept), take_rest rest 1, c.utf_16_of-encoding.ensures) at next.ensures.shown in
    let e = encoding_of (utf_16_of c.args.order) in
    let joins = ap (λ v. chars (take c.put_latin_1-at.result c.put_latin_1-at.new.run) ++ text_of (utf_16_of c.args.order) v) (sym split) ∙ front.1 in
    let made = decoded-one e _ _ _ first (drop 1 rest) _ _ front.0 one.scalar one.text joins shown.character_is shown.length_is in
    record {
      same_room = one.same_room ∙ put.same_room ∙ held.same_room;
      within = omega (arith, one.within, one.same_room, put.within, put.same_room, c.if-run-at-ge64.true, within);
      onwards = omega (arith, held.onwards, put.after, one.more);
      left = rw (take_rest bytes (2 * kept), take_rest rest next.result.length, length-drop next.result.length rest, length-drop (2 * kept) bytes)
          (omega (arith, one.within, put.within, held.left, next.ensures.some, within, c.loop-rest-test.true));
      is_text = made.0;
      text = rw (take_rest bytes (2 * kept), take_rest rest next.result.length, split) made.1;
    }
