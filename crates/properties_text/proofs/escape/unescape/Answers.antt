use Rattle.std.proofs.Common.{◌≡◌, ◌++◌, not, string_bytes, take, drop, sym, ap, ◌∙◌, subst}
use Rattle.std.specs.Str.{chars}
use Rattle.std.proofs.lemmas.Result.{err_from_is_err_and}
use Rattle.properties_format.specs.Escapes.{Means}
use Rattle.properties_format.specs.Computed.Escapes.{meaning_of}
use Rattle.properties_text.specs.Escaping.{IsRefused}
use Rattle.properties_text.proofs.Texts.Resolving.{split_at, plain, slice-front, refused_front, means_front, means_plain}
use Rattle.properties_text.proofs.escape.unescape.Goals as goal

pub returns-in_default : goal.returns-in_default
returns-in_default c =
    let p = plain c.as_bytes.result.now c.args.s.now c.utf8.s c.as_bytes.ensures.value c.in_default.ensures in
    record { meaning = means_plain (chars c.args.s.now) p.meaning; borrowed = sym (ap not p.holds) }

pub returns-in_err-text-clause-borrowed : goal.returns-in_err-text-clause-borrowed
returns-in_err-text-clause-borrowed c =
    let s = split_at c.as_bytes.result.now c.args.s.now c.in-Some.first c.utf8.s c.as_bytes.ensures.value c.in-Some.ensures in
    let p = err_from_is_err_and c.from_residual.result c.from_residual.ensures.1 in
    rw p.1 (sym (ap not s.holds))

pub returns-in_err-push_part-clause-borrowed : goal.returns-in_err-push_part-clause-borrowed
returns-in_err-push_part-clause-borrowed c =
    let s = split_at c.as_bytes.result.now c.args.s.now c.in-Some.first c.utf8.s c.as_bytes.ensures.value c.in-Some.ensures in
    let p = err_from_is_err_and c.from_residual-in_err-push_part.result c.from_residual-in_err-push_part.ensures.1 in
    rw p.1 (sym (ap not s.holds))

pub returns-in_err-push_resolved : goal.returns-in_err-push_resolved
returns-in_err-push_resolved c =
    let text = c.args.s.now in
    let at = c.in-Some.first in
    let s = split_at c.as_bytes.result.now text at c.utf8.s c.as_bytes.ensures.value c.in-Some.ensures in
    let p = err_from_is_err_and c.from_residual-in_err-push_resolved.result c.from_residual-in_err-push_resolved.ensures.1 in
    let refused = refused_front (chars text) (chars (take at text)) (chars (drop at text)) c.in_err-push_resolved.field-0.0 s.meaning
    (subst (λ v. IsRefused (chars v) c.in_err-push_resolved.field-0.0) c.range_from.ensures.value c.in_err-push_resolved.ensures) in
    record {
      meaning = rw (p.1, p.2) refused;
      borrowed = rw p.1 (sym (ap not s.holds));
    }

pub returns : goal.returns
returns c =
    let text = c.args.s.now in
    let at = c.in-Some.first in
    let s = split_at c.as_bytes.result.now text at c.utf8.s c.as_bytes.ensures.value c.in-Some.ensures in
    let h = c.in_ok-push_resolved.ensures in
    let before : string_bytes c.push_part.new.text ≡ take at text =
    c.in_ok-push_part.ensures ∙ ap (λ v. v ++ c.range.result.now) c.in_ok-text.ensures.bytes ∙ c.range.ensures.value ∙ slice-front text at in
    let meant = means_front (chars text) (chars (take at text)) (chars (drop at text)) h.0 s.meaning
    (ap (λ v. meaning_of (chars v)) (sym c.range_from.ensures.value) ∙ h.1) in
    record {
      meaning = subst (Means (chars text)) (sym (h.2 ∙ ap (λ v. chars v ++ h.0) before)) meant;
      borrowed = sym (ap not s.holds);
    }
