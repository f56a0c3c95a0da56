use Rattle.std.proofs.lemmas.Result.{err_from_is_err_and}
use Rattle.java_properties.proofs.MalformedEscapes.{blank-checked, comment-checked, key-checked, value-checked}
use Rattle.java_properties.proofs.iter.escapes.check_line.Goals as goal

pub returns-in-None : goal.returns-in-None
returns-in-None c = blank-checked c.args.line.now c.in-None.ensures.meets

pub returns-in-Some-Comment : goal.returns-in-Some-Comment
returns-in-Some-Comment c =
    let split = rw c.in-Some-Comment.field-0-is at c.in-Some-Comment.ensures.meets in
    comment-checked c.args.line.now c.in-Some-Comment.text c.check_part.result split c.check_part.ensures

pub returns-in_err-check_part-in-Some-KVPair : goal.returns-in_err-check_part-in-Some-KVPair
returns-in_err-check_part-in-Some-KVPair c =
    let error = err_from_is_err_and c.from_residual.result c.from_residual.ensures.1 in
    let at = rw c.in-Some-KVPair.field-0-is at c.in-Some-KVPair.ensures.meets in
    rw (error.1, error.2)
    (key-checked c.args.line.now c.in-Some-KVPair.key c.in-Some-KVPair.value at c.in_err-check_part-in-Some-KVPair.field-0.0
    c.in_err-check_part-in-Some-KVPair.ensures)

pub returns-in_ok-check_part-in-Some-KVPair : goal.returns-in_ok-check_part-in-Some-KVPair
returns-in_ok-check_part-in-Some-KVPair c =
    let at = rw c.in-Some-KVPair.field-0-is at c.in-Some-KVPair.ensures.meets in
    value-checked c.args.line.now c.in-Some-KVPair.key c.in-Some-KVPair.value at c.check_part-in-Some-KVPair-2.result c.in_ok-check_part-in-Some-KVPair.ensures
    c.check_part-in-Some-KVPair-2.ensures
