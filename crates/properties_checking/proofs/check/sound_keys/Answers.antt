use Rattle.std.proofs.Common.{◌∙◌, inl, refl, sym}
use Rattle.properties_text.specs.Encoding.{encoding_of}
use Rattle.properties_tables.proofs.KeyTables.{took-none}
use Rattle.properties_checking.proofs.LineFindings.{sound-read}
use Rattle.properties_checking.proofs.check.sound_keys.Goals as goal

pub returns-in-None : goal.returns-in-None
returns-in-None c = inl (sym c.first_in_pair.ensures ∙ c.in-None.is, refl)

pub take_all-requires : goal.take_all-requires
take_all-requires c = took-none _ c.in_ok-none-in-Some.ensures.table c.in_ok-none-in-Some.ensures.empty

pub returns-in_ok-none-in-Some : goal.returns-in_ok-none-in-Some
returns-in_ok-none-in-Some c =
    sound-read (encoding_of c.args.encoding) c.args.source.now _ c.args.keys c.args.escapes.now c.take_all.result c.take_all.ensures
