use Rattle.std.proofs.Common.{rules}
use Rattle.counted_io.specs.Streams.{reader, sink}
use Rattle.properties_tools.proofs.LentStreams.{filters-borrowed, filters-same}
use Rattle.properties_tools.proofs.filter.filter_with.Goals as goal
use Rattle.properties_tools.specs.Filter.{form}

pub returns-clause-filters : goal.returns-clause-filters
returns-clause-filters g c =
    let r = reader g.R.Read g.R.CountedRead in
    let s = sink g.W.Write g.W.CountedWrite in
    let items = c.in_ok-items.items in
    let lines = c.set_ascii_only.new.self in
    let after = c.write_pairs-result in
    let h = filters-borrowed r s (form items.state.encoding lines.settings.ascii_only) items.reader lines.sink after.new.items.reader after.new.lines.sink
    after.result after.ensures.filters in
    filters-same r s after.result _ _ _ _ _ _ _ _ _ _ _ _ h (search rules) (search rules) (search rules) (search rules) (search rules) (search rules)
