use Rattle.properties_text.specs.Encoding.{encoding_of}
use Rattle.properties_tables.specs.Private.Table.{place_keys, places_in}
use Rattle.properties_tools.specs.Propedit.Listing.{AreKeysOf}
use Rattle.properties_tools.proofs.ListedKeys.{keys-only}
use Rattle.properties_tools.proofs.propedit.list.list.Goals as goal

pub listed-requires : goal.listed-requires
listed-requires c = c.in_ok-keys.ensures.1

pub returns : goal.returns
returns c =
    let e = encoding_of c.args.encoding in
    let source = c.args.source.now in
    let read = c.in_ok-keys.ensures in
    let keys = place_keys (places_in c.in_ok-keys.keys) in
    let are : AreKeysOf e source keys = record { entries = read.2.pairs; are = read.2.are; each = read.2.keys } in
    record { sound = read.0; keys = keys; are = are; only = λ others k. keys-only e source keys others are k; prints = c.in_ok-listed.ensures }
