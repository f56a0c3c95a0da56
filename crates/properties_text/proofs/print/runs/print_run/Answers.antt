use Rattle.std.proofs.Common.{◌≤◌, ◌+◌, take, ap, ◌∙◌, arith}
use Rattle.std.proofs.lemmas.List.{length-take-le, with_items_is}
use Rattle.properties_text.proofs.PrintedTexts.Runs.{run-on, run-none, run-kept, run-of-part}
use Rattle.properties_text.proofs.print.runs.print_run.Goals as goal

pub returns-clause-run : goal.returns-clause-run
returns-clause-run g c =
    let size = length-take-le c.args.part.size c.args.part.bytes.now c.args.part.within in
    let part : c.args.from + c.min-count.result ≤ c.args.part.size = omega (arith, c.requires.from, c.min-count.ensures) in
    let back = with_items_is c.make_room.new.bytes c.put_run.new.out (c.put_run.ensures.same_room ∙ c.deref_mut.ensures.len) in
    let same = ap (take c.args.at) c.deref_mut.ensures.value ∙ c.in_ok-make_room.ensures.same in
    rw back (run-on (run-none (omega (arith, size, c.requires.from)) same)
    (run-of-part (c.args.from + c.min-count.result) c.args.part.size c.args.part.bytes.now part c.args.part.within (omega arith) c.put_run.ensures.run))

pub returns-clause-within : goal.returns-clause-within
returns-clause-within g c =
    let back = with_items_is c.make_room.new.bytes c.put_run.new.out (c.put_run.ensures.same_room ∙ c.deref_mut.ensures.len) in
    rw back c.put_run.ensures.within

pub returns-clause-same : goal.returns-clause-same
returns-clause-same g c = (run-kept c.args.at (omega arith) c.requires.at (returns-clause-run g c) (returns-clause-within g c)).1
