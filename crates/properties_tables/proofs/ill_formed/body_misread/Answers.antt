use Rattle.properties_text.specs.Encoding.{encoding_of}
use Rattle.properties_tables.proofs.FlawedLines.{unmisread}
use Rattle.properties_tables.proofs.ill_formed.body_misread.Goals as goal

pub returns-in-None : goal.returns-in-None
returns-in-None c =
    let found = c.body_in_windows_1252-in_force in
    unmisread (encoding_of found.result.0) found.result.1.now c.in-None.ensures found.ensures
