use Rattle.std.proofs.Common.{ℕ, Bool, List, refl, rules, inl, inr}
use Rattle.std.specs.Prelude.{◌⊎◌, Result, Ok, Err, IfOk, IfErr}
use Rattle.std.specs.Global.{Vec}
use Rattle.properties_format.specs.{Encoding.Encoding, Converting.IsConverted}
use Rattle.properties_text.specs.{Encoding.encoding_of, Printing.in_format, declared.print.Repertoire.Repertoire}
use Rattle.properties_items.specs.{Errors.IsBareError, declared.error.PropertiesError.PropertiesError}
use Rattle.properties_items.specs.declared.error.ErrorKind.TheVariants as kind
use Rattle.properties_c.specs.{Editing.GivesConverted, Crossing.Crossing, Crossing.Crosses, Crossing.RefusesCall, declared.status.Status.TheVariants.NoMemory}
use Rattle.properties_c.proofs.convert.todrenval_convert.Goals as goal

crossed : (e : Encoding) (t : Repertoire) (readable : Bool) (source : List ℕ) (outcome : Result (Vec ℕ) PropertiesError) (x : Crossing)
    → IfOk outcome (λ bytes. IsConverted e (in_format t) readable source bytes.items) → IfErr outcome (λ error. IsBareError kind.Memory error) → Crosses outcome x
    → GivesConverted e t readable source x ⊎ RefusesCall NoMemory 0 x
crossed e t readable source (Ok bytes) x converted refused crosses = inl (record { bytes = bytes.items; converted = converted; given = crosses })
crossed e t readable source (Err error) x converted refused crosses = inr (search rules)

pub returns-in_default-flags_numbered : goal.returns-in_default-flags_numbered
returns-in_default-flags_numbered c =
    inl (
      encoding_of c.in-Some.encoding,
      search rules,
      inl (c.in-Some-target_numbered.target, search rules, inr (search rules, record { answers = search rules; kept = refl })),
    )

pub returns-in-Some-refused_line : goal.returns-in-Some-refused_line
returns-in-Some-refused_line c =
    inl (
      encoding_of c.in-Some.encoding,
      search rules,
      inl (
        c.in-Some-target_numbered.target,
        search rules,
        inl (
          c.in-Some-flags_numbered.flags,
          search rules,
          inr (
            c.in-Some-refused_line.number,
            c.in-Some-refused_line.ensures,
            record { answers = search rules; kept = refl },
          ),
        ),
      ),
    )

pub returns : goal.returns
returns c =
    let f = c.in-Some-flags_numbered.flags in
    let converted = crossed _ _ f.readable _ c.convert-converted.result _ (search rules) (search rules) (search rules) in
    inl (
      encoding_of c.in-Some.encoding,
      search rules,
      inl (c.in-Some-target_numbered.target, search rules, inl (f, search rules, inl (c.in_default-refused_line.ensures, converted))),
    )
