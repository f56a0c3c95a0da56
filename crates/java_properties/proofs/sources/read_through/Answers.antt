use Rattle.std.proofs.Common.{◌++◌, inl, inr, take}
use Rattle.std.proofs.lemmas.Result.{err_from_is_err_and}
use Rattle.counted_io.proofs.Streams.{read-more}
use Rattle.java_properties.proofs.WholeSources.{fails-here}
use Rattle.java_properties.proofs.sources.read_through.Goals as goal

pub returns-in_err-extend_from_slice-in-Ok-clause-reads : goal.returns-in_err-extend_from_slice-in-Ok-clause-reads
returns-in_err-extend_from_slice-in-Ok-clause-reads g c =
    let error = err_from_is_err_and c.from_residual.result c.from_residual.ensures.1 in
    let part = take c.in-Ok.count c.read_counted.new.buf in
    rw error.1 (inr (record {
      bytes = c.loop-bytes.bytes.items ++ part;
      read = read-more c.loop-bytes.invariant.read (record { moved = c.in-Ok.ensures.bytes.0; faultless = c.in-Ok.ensures.faults });
      is = error.2;
    }))

pub returns-in-Err-clause-reads : goal.returns-in-Err-clause-reads
returns-in-Err-clause-reads g c = inl (record {
  bytes = c.loop-bytes.bytes.items;
  place = c.loop-bytes.reader;
  read = c.loop-bytes.invariant.read;
  cause = c.in-Err.fault;
  failed = fails-here c.in-Err.fault c.in-Err.ensures.bytes c.in-Err.ensures.faults c.in-Err.ensures.gives;
  is = rw (← c.deref.ensures.value) c.error_at_fault.ensures;
})
