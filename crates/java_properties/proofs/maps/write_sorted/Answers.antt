use Rattle.std.proofs.Common.{arith}
use Rattle.std.proofs.lemmas.Iterator.Consumers.{map_from_collect, YieldsList-from_rest}
use Rattle.counted_io.specs.Streams.{sink}
use Rattle.properties_format.specs.Encoding.{output_encoding}
use Rattle.properties_format.proofs.ReadBack.Law.{output_encoding-own}
use Rattle.properties_text.specs.Encoding.{encoding_of}
use Rattle.java_properties.specs.Maps.{texts_of}
use Rattle.java_properties.proofs.TextMaps.Writing.{sorted-in-order}
use Rattle.java_properties.proofs.TextMaps.ReadBack.{writes-map, writes-read_back}
use Rattle.java_properties.proofs.maps.write_sorted.Goals as goal

pub returns-clause-writes : goal.returns-clause-writes
returns-clause-writes g c =
    let entries = c.args.map.now.entries in
    let pairs = c.in_ok-pairs.pairs.items in
    let all = rw c.in_ok-pairs.was at (map_from_collect c.collect.result c.collect.ensures.ran (YieldsList-from_rest entries c.iter.ensures.rest)) in
    let ordered = sorted-in-order entries pairs all c.iter.ensures.ordered in
    let writes = rw (c.deref.ensures.value, c.from.ensures) at c.write_pairs.ensures.writes in
    writes-map (sink g.W.Write g.W.CountedWrite) (output_encoding (encoding_of c.args.encoding)) entries (texts_of pairs) c.args.writer.now _
    c.write_pairs.result ordered writes

pub returns-clause-reads_back : goal.returns-clause-reads_back
returns-clause-reads_back g c = grind (arith, writes-read_back, output_encoding-own, returns-clause-writes)
