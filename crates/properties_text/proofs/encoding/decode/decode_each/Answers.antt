use Rattle.std.proofs.Common.{◌≡◌, ◌∷◌, ◌∙◌, ◌≤◌, ◌+◌, refl, ◌++◌, ap, sym, arith, take, drop, get_or, length}
use Rattle.std.specs.Char.{encode_utf8}
use Rattle.std.specs.Str.{chars}
use Rattle.std.proofs.lemmas.List.{drop_more, length-drop, take-take, length-take-le, take_rest}
use Rattle.properties_format.specs.Encoding.{windows_1252}
use Rattle.properties_format.specs.Windows1252.{windows_1252_character}
use Rattle.properties_text.specs.Encoding.{text_of}
use Rattle.properties_text.specs.declared.encoding.Encoding.TheVariants.{WINDOWS_1252}
use Rattle.byte_blocks.proofs.Rows.{take_past}
use Rattle.properties_text.proofs.TextFronts.{decoded-one}
use Rattle.properties_text.proofs.encoding.decode.decode_each.Goals as goal

pub loop-left-preserved : goal.loop-left-preserved
loop-left-preserved c =
    let held = c.loop-left.invariant in
    let at = c.loop-left.at in
    let old = c.loop-left.run in
    let put = c.put_four in
    let text = c.text_of_byte-text in
    let n = text.result.length in
    let bytes = c.loop-left.rest.now in
    let first = get_or bytes 0 0 in
    let whole : bytes ≡ first ∷ drop 1 bytes = drop_more bytes 0 0 (omega (arith, held.rest_is, held.fewer, c.loop-left-test.true)) in
    let before = chars (take at old) in
    let joins = ap (λ v. before ++ text_of WINDOWS_1252 v) (sym whole) ∙ held.text in
    let inside : at ≤ length old = omega (arith, held.end, held.fewer, held.same_room, c.requires.room, c.loop-left-test.true) in
    let past = take_past (take at old) text.result.bytes n (at + n) (omega (arith, length-take-le at old inside)) in
    let written : take (at + n) put.new.run ≡ take at old ++ encode_utf8 (windows_1252_character first) =
    rw (← text.ensures.begins, ← past, ← put.ensures.text) (sym (take-take (at + n) (at + 4) put.new.run (omega (arith, text.ensures.few)))) in
    let one = decoded-one windows_1252 _ _ _ first (drop 1 bytes) _ 1 held.is_text text.ensures.scalar written joins refl refl in
    record {
      same_room = put.ensures.same_room ∙ held.same_room;
      onwards = omega (arith, held.onwards);
      end = omega (arith, held.end, text.ensures.few, c.loop-left-test.true);
      fewer = omega (arith, held.fewer);
      rest_is = rw (take_rest, length-drop 1 bytes) (omega (arith, held.rest_is, held.fewer, c.loop-left-test.true));
      is_text = one.0;
      text = rw take_rest one.1;
    }
