use Rattle.std.proofs.Common.{◌<◌, length, refl, ap, ◌∙◌, ◌≡◌, subst, arith}
use Rattle.std.specs.Prelude.{None, Some, bytes_eq, string_bytes}
use Rattle.std.specs.{Map.update, Str.chars}
use Rattle.std.proofs.lemmas.Str.{IsUtf8-string_bytes}
use Rattle.properties_items.proofs.TextMaps.Values.{at_chars, at_chars-updated}
use Rattle.properties_tables.specs.Private.Sought.{mark_for}
use Rattle.properties_tables.proofs.SoughtKeys.{seeks-more}
use Rattle.properties_tables.proofs.values.Sought.add.Goals as goal

pub returns : goal.returns
returns c =
    let old = c.args.self.now in
    let copy = c.in_ok-from_str.field-0 in
    let same : string_bytes copy ≡ c.args.key.now = c.in_ok-from_str.ensures.ok in
    let put = at_chars-updated old.values c.insert.new.self (string_bytes copy) (IsUtf8-string_bytes copy) (Some None) c.in_ok-insert.ensures.updates in
    let size : c.len.result ≡ length old.marks.items = omega arith in
    let mark = c.mark_of-mark.ensures.is ∙ ap (λ n. mark_for n c.as_bytes.result.now) size
    ∙ ap (mark_for (length old.marks.items)) c.as_bytes.ensures.value in
    seeks-more c.args.key.now c.utf8.key old _ c.requires c.in_ok-insert.ensures.ordered c.mark_of-mark.result mark
    (subst (λ n. c.mark_of-mark.result < n) size c.mark_of-mark.ensures.within) refl
    (λ k. put k ∙ ap (λ v. update bytes_eq (at_chars old.values.entries) (chars v) (Some None) k) same) refl
