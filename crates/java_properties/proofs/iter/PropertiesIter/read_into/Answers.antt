use Rattle.std.proofs.Common.{arith}
use Rattle.std.specs.Prelude.{Ok, Err}
use Rattle.std.proofs.lemmas.Result.{err_from_is_err_and}
use Rattle.java_properties.proofs.ReadInto.{called-none, called-other, called-more, called-all}
use Rattle.java_properties.proofs.iter.PropertiesIter.read_into.Goals as goal

pub loop-item-init : goal.loop-item-init
loop-item-init g c = record { called = called-none }

pub returns-in_err-line : goal.returns-in_err-line
returns-in_err-line g c =
    let error = err_from_is_err_and c.from_residual.result c.from_residual.ensures.1 in
    let gives = rw c.in_err-line.was at c.in-Some.ensures.steps in
    rw (error.1, error.2) (record { reads = called-all c.next.new.self (Err _) c.loop-item.invariant.called gives })

pub loop-item-preserved : goal.loop-item-preserved
loop-item-preserved g c = grind (arith, called-more)

pub loop-item-preserved-in_default-consume_content : goal.loop-item-preserved-in_default-consume_content
loop-item-preserved-in_default-consume_content g c = grind (arith, called-other)

pub returns : goal.returns
returns g c = record { reads = called-all c.next.new.self (Ok tt) c.loop-item.invariant.called c.in_default.ensures.steps }
