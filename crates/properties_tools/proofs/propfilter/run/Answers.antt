use Rattle.std.proofs.Common.{refl, inl}
use Rattle.std.specs.Prelude.{Err}
use Rattle.properties_text.specs.Encoding.{encoding_of}
use Rattle.counted_io.specs.Streams.{reader, sink}
use Rattle.properties_tools.proofs.FilterErrors.{filter-shown}
use Rattle.properties_tools.proofs.propfilter.run.Goals as goal
use Rattle.properties_tools.specs.Filter.{form}

pub returns-in-Err-clause-runs : goal.returns-in-Err-clause-runs
returns-in-Err-clause-runs g c =
    let filters = c.in-Err.ensures.filters in
    let shown = filter-shown (reader g.R.Read g.R.CountedRead) (sink g.W.Write g.W.CountedWrite) _ _ _ _ _ c.in-Err.error filters in
    inl (record {
      allowed = form (encoding_of c.in-Some.asked.encoding) c.in-Some.asked.ascii_only;
      asked = c.in-Some.ensures;
      result = Err c.in-Err.error;
      filters = filters;
      answer = refl;
      prints = record { text = shown.0; is_text = shown.1; prints = rw shown.1 at c.print_error.ensures.prints };
    })
