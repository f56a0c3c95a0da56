use Rattle.properties_text.specs.Encoding.{encoding_of}
use Rattle.properties_tables.proofs.Tables.{reads-table, took-none}
use Rattle.properties_tables.proofs.table.table_of.Goals as goal

pub take_sound-requires : goal.take_sound-requires
take_sound-requires c = took-none _ c.in_ok-none.ensures.table c.in_ok-none.ensures.empty

pub returns : goal.returns
returns c = reads-table (encoding_of c.args.encoding) c.args.source.now _ c.take_sound.result c.take_sound.ensures
