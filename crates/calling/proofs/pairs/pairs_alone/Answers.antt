use Rattle.std.proofs.Common.{◌++◌, ap, ◌∙◌}
use Rattle.calling.proofs.pairs.pairs_alone.Goals as goal

pub returns-clause-holds : goal.returns-clause-holds
returns-clause-holds g c =
    let h = c.in_ok-filter.ensures.idempotent in
    let emptied = ap (λ v. v.items ++ h.bytes) c.new-output.ensures.inner ∙ ap (λ v. v ++ h.bytes) c.new.ensures.items in
    let same = ap (λ v. v.items) c.into_inner-bytes.ensures ∙ h.written.moved ∙ emptied in
    rw same (record { items = h.items; reads = h.reads; back = h.back; only = h.only })
