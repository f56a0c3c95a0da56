use Rattle.std.proofs.Common.{◌++◌, ◌≡◌, ◌∷◌, ◌∙◌, ◌<◌, rules, arith, sym, ap, length, take, drop, get_or}
use Rattle.std.specs.Str.{chars}
use Rattle.std.proofs.lemmas.List.{drop_more, length-drop, take_rest}
use Rattle.properties_text.specs.Encoding.{encoding_of, text_of}
use Rattle.properties_text.proofs.TextFronts.{decoded-one}
use Rattle.properties_text.proofs.encoding.decode.decode_run_of.Goals as goal

pub loop-encoding-preserved : goal.loop-encoding-preserved
loop-encoding-preserved c =
    let held = c.loop-encoding.invariant in
    let put = c.put_character-at.ensures in
    let next = c.first_piece-next in
    let rest = c.loop-encoding.rest.now in
    let first = get_or rest 0 0 in
    let some : 0 < length rest = search (rules, c.is_empty.ensures, c.loop-encoding-test.true) in
    let whole : rest ≡ first ∷ drop 1 rest = drop_more rest 0 0 some in
    let joins = ap (λ v. chars (take c.loop-encoding.at c.loop-encoding.run) ++ text_of c.args.encoding v) (sym whole) ∙ held.text in
    let shown = rw take_rest at next.ensures.shown in
    let one = decoded-one (encoding_of c.args.encoding) _ _ _ first (drop 1 rest) _ _ held.is_text put.scalar put.text
    joins shown.character_is shown.length_is in
    record {
      same_room = put.same_room ∙ held.same_room;
      within = omega (arith, put.within, put.same_room, held.within, c.if-run-at-ge4.true);
      onwards = omega (arith, held.onwards, put.more);
      left = rw (take_rest, length-drop next.result.length rest) (omega (arith, put.within, held.left, next.ensures.some, some));
      is_text = one.0;
      text = rw (take_rest, whole) one.1;
    }
