use Rattle.std.proofs.Common.{sym, ◌∙◌, inl, inr}
use Rattle.properties_changing.proofs.Statuses.{refused-status}
use Rattle.properties_changing.proofs.in_place.edit_file.Goals as goal

pub returns-in-Err-NotReplaced-clause-prints : goal.returns-in-Err-NotReplaced-clause-prints
returns-in-Err-NotReplaced-clause-prints g c =
    λ failed. rw (← c.as_str-path.ensures.value) (inr (c.in-Err-NotReplaced.error, c.print_replace_error.ensures.prints))

pub returns-in-Err-NotEdited-clause-refused : goal.returns-in-Err-NotEdited-clause-refused
returns-in-Err-NotEdited-clause-refused g c = λ one.
    rw (← c.as_str-path.ensures.value)
    (refused-status _ _ _ _ _ _ c.in-Err-NotEdited.failure c.status.result
    (rw c.in-Err-NotEdited.field-0-is at c.in-Err-NotEdited.ensures.fails) c.status.ensures c.print_failure.ensures.prints one)

pub returns-in-Err-NotEdited-clause-prints : goal.returns-in-Err-NotEdited-clause-prints
returns-in-Err-NotEdited-clause-prints g c = λ two.
    rw (← c.as_str-path.ensures.value)
    (inl (record { failure = c.in-Err-NotEdited.failure; status = sym c.status.ensures ∙ two; prints = c.print_failure.ensures.prints }))
