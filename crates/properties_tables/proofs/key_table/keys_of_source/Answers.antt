use Rattle.properties_text.specs.Encoding.{encoding_of}
use Rattle.properties_tables.proofs.KeyTables.{reads-keys, took-none}
use Rattle.properties_tables.proofs.key_table.keys_of_source.Goals as goal

pub take_sound-requires : goal.take_sound-requires
take_sound-requires c = took-none _ c.in_ok-none.ensures.table c.in_ok-none.ensures.empty

pub returns : goal.returns
returns c =
    let e = encoding_of c.args.encoding in
    rw c.into_keys.ensures (reads-keys e c.args.source.now _ c.in_ok-table.table c.in_ok-table.ensures)
