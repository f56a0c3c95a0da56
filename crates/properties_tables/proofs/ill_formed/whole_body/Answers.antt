use Rattle.std.proofs.{Common.refl, lemmas.List.take_rest}
use Rattle.properties_text.specs.Encoding.{encoding_of}
use Rattle.properties_tables.specs.declared.ill_formed.Flaw.TheVariants.{NonAscii}
use Rattle.properties_tables.proofs.FlawedLines.{lines-body}
use Rattle.properties_tables.proofs.ill_formed.whole_body.Goals as goal

pub returns : goal.returns
returns c =
    rw (take_rest c.args.source.now c.encoding_in_force-in_force.result.1)
    (lines-body NonAscii (encoding_of c.args.encoding) c.args.source.now _ _ c.encoding_in_force-in_force.ensures.in_force refl)
