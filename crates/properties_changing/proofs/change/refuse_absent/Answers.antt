use Rattle.std.proofs.{Common.ap, Common.sym, Common.refl, Common.inl, Common.inr, Common.subst, lemmas.Result.err_from_is_err_and}
use Rattle.std.specs.{Prelude.map, Prelude.Ok, Str.chars}
use Rattle.properties_text.specs.Encoding.{encoding_of}
use Rattle.java_properties.specs.Maps.{characters}
use Rattle.properties_changing.specs.{Keys.IsFirstAbsent, Private.Collected.FindsAbsent}
use Rattle.properties_changing.proofs.SoughtKeys.{lost}
use Rattle.properties_changing.proofs.change.refuse_absent.Goals as goal

pub returns-in_ok-from_str-in-Some : goal.returns-in_ok-from_str-in-Some
returns-in_ok-from_str-in-Some c =
    let e = encoding_of c.args.encoding in
    let source = c.args.source.now in
    let keys = map characters c.args.keys.now in
    let one = subst (λ f. FindsAbsent e source keys (Ok f)) c.in-Some.is c.in_ok-key.ensures in
    let name = ap chars (sym c.in_ok-from_str-in-Some.ensures.ok) in
    inl (record {
      key = c.in_ok-from_str-in-Some.field-0;
      first = subst (λ k. IsFirstAbsent e source keys k) name one;
      is = refl;
    })

pub returns-in_err-key : goal.returns-in_err-key
returns-in_err-key c =
    let error = err_from_is_err_and c.from_residual.result c.from_residual.ensures.1 in
    rw (error.1, error.2) (inr (lost (encoding_of c.args.encoding) c.args.source.now _ c.in_err-key.ensures))
