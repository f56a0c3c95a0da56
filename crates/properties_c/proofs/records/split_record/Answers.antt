use Rattle.std.proofs.Common.{arith}
use Rattle.properties_c.proofs.{Packing.sizes, Splitting.Splits-header, Splitting.Splits-made, Splitting.parted}
use Rattle.properties_c.proofs.records.split_record.Goals as goal

pub returns-in_default-split_at_checked : goal.returns-in_default-split_at_checked
returns-in_default-split_at_checked c = λ first rest h.
    let k = Splits-header c.in-Some.ensures.0 c.in-Some.ensures.1 h in
    grind (arith, sizes, k.tail, k.key, c.in_default-split_at_checked.ensures.cases)

pub returns-in_default-split_at_checked-2 : goal.returns-in_default-split_at_checked-2
returns-in_default-split_at_checked-2 c = λ first rest h.
    let k = Splits-header c.in-Some.ensures.0 c.in-Some.ensures.1 h in
    let cut = c.in-Some-split_at_checked.ensures.cases in
    grind (arith, sizes, k.tail, k.key, k.value, cut.4, c.in_default-split_at_checked-2.ensures.cases)

pub returns : goal.returns
returns c =
    let keys = c.in-Some-split_at_checked.ensures.cases in
    let values = c.in-Some-split_at_checked-2.ensures.cases in
    Splits-made c.in-Some.ensures.0 c.in-Some.ensures.1 (parted _ keys.1 keys.2) keys.3
    (parted _ values.1 values.2) values.3
