use Rattle.std.proofs.Common.{◌≡◌, ◌<◌, [], length, refl, sym, ap, take, drop, subst, ◌∙◌, arith}
use Rattle.std.specs.Str.{IsUtf8, chars}
use Rattle.std.proofs.lemmas.Result.{err_from_is_err_and}
use Rattle.std.proofs.lemmas.Str.{chars-nil, IsCharBoundary-from_drop}
use Rattle.std.proofs.lemmas.List.{length-drop}
use Rattle.properties_format.specs.Computed.Escapes.{in_front, meaning_of, text_in_front}
use Rattle.properties_format.proofs.Escapes.Unique.{text_in_front-breaks}
use Rattle.properties_text.specs.Escaping.{malformed_in}
use Rattle.properties_text.specs.declared.encoding.line_encoding.LineEncoding.TheVariants.{Utf8}
use Rattle.properties_text.proofs.Texts.Units.{units-more}
use Rattle.properties_text.proofs.SpeltTexts.Escapes.{spells-meaning}
use Rattle.properties_text.proofs.escape.put_escapes.Goals as goal

pub loop-run-init : goal.loop-run-init
loop-run-init c = record {
  utf8 = c.utf8.text;
  same_room = refl;
  within = omega arith;
  is_text = ([], (refl, refl));
  meaning = ap (λ v. text_in_front v (meaning_of (chars c.args.text.now))) (sym chars-nil);
  left = omega arith;
  shorter = λ some. absurd (omega (arith, some));
  start = λ none. refl;
}

pub range_from-rest-requires : goal.range_from-rest-requires
range_from-rest-requires c = λ _.
    let same = c.as_bytes.ensures.value in
    IsCharBoundary-from_drop c.loop-run.rest.now c.in_ok-escape.escape.length
    (rw (sym same) c.in_ok-escape.ensures.within) (subst (λ v. IsUtf8 (drop c.in_ok-escape.escape.length v)) same c.in_ok-escape.ensures.well)

pub returns-in_err-escape-clause-resolves : goal.returns-in_err-escape-clause-resolves
returns-in_err-escape-clause-resolves c =
    let held = c.loop-run.invariant in
    let p = err_from_is_err_and c.from_residual.result c.from_residual.ensures.1 in
    let done = chars (take c.loop-run.end c.loop-run.run) in
    rw (p.1, p.2, held.meaning, ← c.as_bytes.ensures.value, c.in_err-escape.ensures.1)
    (text_in_front-breaks done (malformed_in c.in_err-escape.field-0.0))

pub loop-run-preserved : goal.loop-run-preserved
loop-run-preserved c =
    let held = c.loop-run.invariant in
    let rest = c.loop-run.rest.now in
    let escape = c.in_ok-escape.escape in
    let put = c.put_character-end.ensures in
    let left = c.range_from-rest.ensures.value in
    let means : meaning_of (chars rest) ≡ in_front escape.character (meaning_of (chars c.range_from-rest.result.now)) =
    rw (left, ← c.as_bytes.ensures.value) (spells-meaning Utf8 _ escape c.in_ok-escape.ensures.is) in
    let more = units-more c.args.text.now c.loop-run.run c.put_character-end.new.run (chars rest) (chars c.range_from-rest.result.now)
    c.loop-run.end c.put_character-end.result escape.character held.is_text c.in_ok-escape.ensures.scalar put.text held.meaning means in
    let read = c.in_ok-escape.ensures in
    let size = ap length c.as_bytes.ensures.value in
    let fewer : length c.range_from-rest.result.now < length rest =
    omega (arith, ap length left, length-drop escape.length rest, read.some, read.within, size) in
    record {
      utf8 = c.range_from-rest.utf8;
      same_room = put.same_room ∙ held.same_room;
      within = omega (arith, put.within, put.same_room, c.loop-run-test.true);
      is_text = more.0;
      meaning = more.1;
      left = omega (arith, held.left, fewer);
      shorter = λ _. omega (arith, held.left, fewer);
      start = λ none. absurd (omega (arith, none, put.more));
    }
