use Rattle.std.proofs.Common.{◌++◌, string_bytes, take, drop, sym, ap, ◌∙◌}
use Rattle.std.specs.Str.{chars}
use Rattle.std.proofs.lemmas.Str.{IsUtf8-string_bytes, chars-append}
use Rattle.properties_format.specs.Computed.Escapes.{meaning_of}
use Rattle.properties_text.specs.Escaping.{malformed_in}
use Rattle.properties_text.proofs.Texts.Resolving.{split_at, plain, slice-front, resolved_many, pushed_text, resolved_end, resolved_broken, broken}
use Rattle.properties_text.proofs.escape.push_resolved.Goals as goal

pub returns-in-Err : goal.returns-in-Err
returns-in-Err c =
    let rest = c.loop-at.rest.now in
    let at = c.in-Some.at in
    let s = split_at c.as_bytes.result.now rest at c.loop-at.invariant.utf8 c.as_bytes.ensures.value c.in-Some.ensures in
    broken (chars c.args.s.now) _ (resolved_broken (chars (take at rest)) (chars (drop at rest))
    (malformed_in c.in-Err.malformed) c.loop-at.invariant.resolved
    s.meaning (ap (λ v. meaning_of (chars v)) (sym c.range_from.ensures.value) ∙ c.in-Err.ensures.resolves))

pub loop-at-preserved : goal.loop-at-preserved
loop-at-preserved c =
    let rest = c.loop-at.rest.now in
    let at = c.in-Some.at in
    let escapes = c.in-Ok.escapes in
    let s = split_at c.as_bytes.result.now rest at c.loop-at.invariant.utf8 c.as_bytes.ensures.value c.in-Some.ensures in
    let text = string_bytes c.loop-at.text in
    let grown = c.in_ok-push_part.ensures ∙ ap (λ v. text ++ v) (c.range.ensures.value ∙ slice-front rest at) in
    let more = take escapes.end c.put_escapes.new.run in
    record {
      utf8 = c.in-Ok.ensures.resolves.rest_is_text;
      resolved = resolved_many (chars (take at rest)) (chars (drop at rest)) (chars more) c.loop-at.invariant.resolved s.meaning
          (ap (λ v. meaning_of (chars v)) (sym c.range_from.ensures.value) ∙ c.in-Ok.ensures.resolves.meaning)
          (pushed_text text (take at rest) more _ _ (IsUtf8-string_bytes c.loop-at.text) s.front_utf8 grown
          (c.in_ok-push_str.ensures.bytes ∙ ap (λ v. string_bytes c.push_part.new.text ++ v) c.from_utf8_unchecked-more.ensures));
    }

pub returns : goal.returns
returns c =
    let rest = c.loop-at.rest.now in
    let p = plain c.as_bytes.result.now rest c.loop-at.invariant.utf8 c.as_bytes.ensures.value c.in_default.ensures in
    resolved_end c.loop-at.invariant.resolved p.meaning
    (ap chars c.in_ok-push_part-2.ensures ∙ chars-append (string_bytes c.loop-at.text) rest (IsUtf8-string_bytes c.loop-at.text))
