use Rattle.std.proofs.Common.{◌<◌, length, arith, length-take, length-drop}
use Rattle.counted_io.specs.Streams.{reader}
use Rattle.single_lines.proofs.ReadAhead.{reads-more}
use Rattle.single_lines.proofs.read_ahead.read_after.Goals as goal

pub returns-clause-reads : goal.returns-clause-reads
returns-clause-reads g c =
    let call = c.read_counted in
    let some : 0 < length call.new.buf = omega (arith, simp (length-take, length-drop) at c.read_counted.auto.buf) in
    reads-more (reader g.R.Read g.R.CountedRead) c.args.reader.now call.new.self c.args.buffer.now call.new.buf _ c.args.place (omega arith) some call.result
    call.ensures.bound call.ensures.bytes call.ensures.faults call.ensures.ended call.ensures.gives
