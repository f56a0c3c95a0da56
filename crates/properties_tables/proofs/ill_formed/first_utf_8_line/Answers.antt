use Rattle.std.proofs.Common.{inl, arith}
use Rattle.properties_text.specs.Encoding.{encoding_of}
use Rattle.properties_tables.proofs.FlawedLines.{looks-first, other-looks, short-looks}
use Rattle.properties_tables.proofs.ill_formed.first_utf_8_line.Goals as goal

pub returns-in_default : goal.returns-in_default
returns-in_default c =
    let found = c.encoding_in_force-in_force in
    inl (other-looks (encoding_of c.args.encoding) c.args.source.now _ found.result.0 found.ensures.in_force c.in_default.not-WINDOWS_1252)

pub returns-then-well_formed_length-source : goal.returns-then-well_formed_length-source
returns-then-well_formed_length-source c =
    inl (short-looks (encoding_of c.args.encoding) c.args.source.now c.well_formed_length.result c.well_formed_length.ensures
    c.if-well_formed_length-source.true)

pub returns : goal.returns
returns c =
    let in_force = rw c.in-WINDOWS_1252.is at c.encoding_in_force-in_force.ensures.in_force in
    looks-first (encoding_of c.args.encoding) c.args.source.now _ c.well_formed_length.result c.first_flawed_line.result in_force
    c.well_formed_length.ensures (omega (arith, c.if-well_formed_length-source.false)) c.first_flawed_line.ensures
