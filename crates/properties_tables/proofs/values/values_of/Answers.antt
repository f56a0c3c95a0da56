use Rattle.std.proofs.Common.{◌∙◌, inl, refl, subst, sym}
use Rattle.std.specs.Prelude.{map}
use Rattle.java_properties.specs.Maps.{characters}
use Rattle.properties_text.specs.Encoding.{encoding_of}
use Rattle.properties_tables.specs.Values.{HaveValues}
use Rattle.properties_tables.proofs.{SoughtKeys.have-found, SoughtKeys.in-comments, SoughtKeys.took-none, RefusedSources.one-found}
use Rattle.properties_tables.proofs.values.values_of.Goals as goal

pub take_all-requires : goal.take_all-requires
take_all-requires c = took-none _ _ c.in_ok-sought.ensures

pub returns-in-Some : goal.returns-in-Some
returns-in-Some c =
    let taken = c.in_ok-found.ensures in
    inl (record {
      escape = c.in-Some.escape;
      first = λ bytes. one-found (encoding_of c.args.encoding) c.args.source.now taken.0 taken.1 c.in-Some.escape bytes (sym c.in-Some.is ∙ taken.2.malformed);
      is = refl;
    })

pub returns : goal.returns
returns c =
    let e = encoding_of c.args.encoding in
    let source = c.args.source.now in
    let keys = map characters c.args.keys.now in
    let taken = c.in_ok-found.ensures in (
      in-comments e source taken.0 taken.1 _ _ taken.2 c.in_default.is,
      subst (HaveValues e source keys) (sym c.in_ok-values_of.ensures)
          (have-found e source taken.0 taken.1 _ _ taken.2 c.in_default.is keys c.in_ok-sought.ensures.each),
    )
