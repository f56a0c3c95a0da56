use Rattle.std.proofs.Common.{arith}
use Rattle.std.proofs.lemmas.Iterator.Consumers.{map_from_collect, YieldsList-from_rest}
use Rattle.counted_io.specs.Streams.{sink}
use Rattle.properties_format.specs.Encoding.{windows_1252}
use Rattle.java_properties.specs.Maps.{texts_of}
use Rattle.java_properties.proofs.TextMaps.Writing.{in-order}
use Rattle.java_properties.proofs.TextMaps.ReadBack.{writes-map, writes-read_back}
use Rattle.java_properties.proofs.maps.write.Goals as goal

pub returns-clause-writes : goal.returns-clause-writes
returns-clause-writes g c =
    let m = c.args.map.now in
    let all = rw c.in_ok-pairs.was at (map_from_collect c.collect.result c.collect.ensures.ran (YieldsList-from_rest m.entries c.iter.ensures.rest)) in
    let ordered = in-order m c.in_ok-pairs.pairs.items c.sort_unstable.new.self.items all c.iter.ensures.unique c.sort_unstable.ensures.permutation
    c.sort_unstable.ensures.sorted in
    let writes = rw (c.deref.ensures.value, c.from.ensures) at c.write_pairs.ensures.writes in
    writes-map (sink g.W.Write g.W.CountedWrite) windows_1252 m.entries (texts_of c.sort_unstable.new.self.items) c.args.writer.now _ c.write_pairs.result
    ordered writes

pub returns-clause-reads_back : goal.returns-clause-reads_back
returns-clause-reads_back g c = grind (arith, writes-read_back, returns-clause-writes)
