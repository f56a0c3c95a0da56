use Rattle.std.proofs.Common.{inl, inr, ap, ◌∙◌}
use Rattle.std.specs.Prelude.{map}
use Rattle.std.proofs.lemmas.Result.{err_from_is_err_and}
use Rattle.java_properties.specs.{Editing.edits_in, Maps.characters}
use Rattle.properties_changing.specs.Change.{edited_keys}
use Rattle.properties_changing.proofs.change.edited.Goals as goal

pub returns-in_err-refuse_absent-in-Refused : goal.returns-in_err-refuse_absent-in-Refused
returns-in_err-refuse_absent-in-Refused c =
    let from = c.from_residual-in_err-refuse_absent-in-Refused in
    let error = err_from_is_err_and from.result from.ensures.1 in
    let done = rw c.deref-in-Refused.ensures.value at c.in_ok-bytes-in-Refused.ensures in
    let keys = ap (map characters) c.deref-in-Refused-3.ensures.value ∙ c.in_ok-keys-in-Refused.ensures
    ∙ ap (λ l. edited_keys (edits_in l)) c.deref-in-Refused-2.ensures.value in
    let refused = rw keys at c.in_err-refuse_absent-in-Refused.ensures in
    rw (error.1, error.2) (elim refused [
      | inl s ↦ inr (inl (record {
        sound = done.0;
        asked = c.in-Refused.is;
        bytes = c.in_ok-bytes-in-Refused.bytes.items;
        made = done.1;
        key = s.key;
        first = s.first;
        is = s.is;
      }))
      | inr m ↦ let l = m done.0 in inr (inr (record {
        sound = done.0;
        error = l.error;
        refused = inr (inr ((λ k. let a = done.1.result.0 in let b = k in absurd (cc)), l.memory));
        is = l.is;
      }))
    ])
