use Rattle.std.proofs.{Common.◌∙◌, Common.refl, lemmas.List.take_rest}
use Rattle.properties_format.specs.Encoding.{windows_1252}
use Rattle.properties_text.specs.Encoding.{encoding_of}
use Rattle.properties_tables.proofs.FlawedLines.{lines-body, lines-unsought, unsought-byte, windows_1252-sought}
use Rattle.properties_tables.proofs.ill_formed.body_in_windows_1252.Goals as goal

pub returns-in-WINDOWS_1252 : goal.returns-in-WINDOWS_1252
returns-in-WINDOWS_1252 c =
    let source = c.args.source.now in
    let e = encoding_of c.args.encoding in
    let in_force = rw c.in-WINDOWS_1252.is at c.encoding_in_force-in_force.ensures.in_force in
    rw (c.in-WINDOWS_1252.is, take_rest source c.encoding_in_force-in_force.result.1)
    (lines-body c.args.flaw e source _ windows_1252 in_force (windows_1252-sought c.args.flaw e source c.requires ∙ rw in_force refl))

pub returns-in_default : goal.returns-in_default
returns-in_default c =
    let found = c.encoding_in_force-in_force in
    let e = encoding_of c.args.encoding in
    let unsought = unsought-byte c.args.flaw e c.args.source.now _ found.result.0 c.requires found.ensures.in_force c.in_default.not-WINDOWS_1252 in
    lines-unsought c.args.flaw e c.args.source.now _ unsought
