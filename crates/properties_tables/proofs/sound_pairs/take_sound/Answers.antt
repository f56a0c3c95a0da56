use Rattle.std.proofs.Common.{◌∙◌, refl, sym}
use Rattle.properties_text.specs.Encoding.{encoding_of}
use Rattle.properties_tables.proofs.RefusedSources.{none-found, one-found}
use Rattle.properties_tables.proofs.sound_pairs.take_sound.Goals as goal

pub take_all-requires : goal.take_all-requires
take_all-requires g c = (c.requires, refl)

pub returns-in-Some : goal.returns-in-Some
returns-in-Some g c =
    let taken = c.in_ok-taken.ensures in
    one-found (encoding_of c.args.encoding) c.args.source.now taken.0 taken.1 c.in-Some.escape c.in_ok-refuse_bytes.ensures
    (sym c.in-Some.is ∙ taken.2.1)

pub returns-in-None : goal.returns-in-None
returns-in-None g c =
    let taken = c.in_ok-taken.ensures in (
      record {
        bytes = c.in_ok-refuse_bytes.ensures;
        in_comments = none-found (encoding_of c.args.encoding) c.args.source.now taken.0 taken.1 (sym c.in-None.is ∙ taken.2.1);
      },
      (taken.0, taken.1, sym taken.2.1 ∙ c.in-None.is, taken.2.0),
    )
