use Rattle.properties_text.proofs.encoding.decode.decode_run.Goals as goal

pub returns-in-UTF_8-clause-front : goal.returns-in-UTF_8-clause-front
returns-in-UTF_8-clause-front c = rw c.in-UTF_8.is c.decode_run_of.ensures.front

pub returns-in-UTF_16LE-clause-front : goal.returns-in-UTF_16LE-clause-front
returns-in-UTF_16LE-clause-front c = rw c.in-UTF_16LE.is c.decode_utf_16.ensures.front

pub returns-in-UTF_16BE-clause-front : goal.returns-in-UTF_16BE-clause-front
returns-in-UTF_16BE-clause-front c = rw c.in-UTF_16BE.is c.decode_utf_16-in-UTF_16BE.ensures.front
