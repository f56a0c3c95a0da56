use Rattle.std.proofs.{Common.inl, Common.inr, lemmas.Result.err_from_is_err_and}
use Rattle.properties_changing.proofs.remove.remove.Goals as goal

pub returns-in_err-refuse_absent : goal.returns-in_err-refuse_absent
returns-in_err-refuse_absent c =
    let from = c.from_residual-in_err-refuse_absent in
    let error = err_from_is_err_and from.result from.ensures.1 in
    let editable = c.in_ok-bytes.ensures.0 in
    let refused = rw c.deref-in-Refused.ensures.value at c.in_err-refuse_absent.ensures in
    rw (error.1, error.2) (elim refused [
      | inl s ↦ rw s.is (inr (c.in-Refused.is, editable, s.first))
      | inr m ↦
          let l = m editable.sound in
          rw l.is (inl (inr (editable.sound, inr (inr ((λ k. let a = editable.made.result.0 in let b = k in absurd (cc)), l.memory)))))
    ])
