use Rattle.std.proofs.Common.{sym, ◌∙◌}
use Rattle.std.proofs.lemmas.List.{length-map}
use Rattle.properties_text.specs.Encoding.{range_of}
use Rattle.properties_text.proofs.FirstPieces.{ascii-sequence, first-sequence, longest-stray, longest-broken}
use Rattle.properties_text.proofs.encoding.utf_8.sequence_length.Goals as goal

pub returns-then-first-lt128-clause-text : goal.returns-then-first-lt128-clause-text
returns-then-first-lt128-clause-text c = rw c.in-Some.ensures.cases.0 (ascii-sequence c.in-Some.first.now c.in-Some.rest.now c.if-first-lt128.true)

pub returns-in_default-ranges_after-clause-none : goal.returns-in_default-ranges_after-clause-none
returns-in_default-ranges_after-clause-none c =
    λ _. rw c.in-Some.ensures.cases.0 (longest-stray c.in-Some.first.now c.in-Some.rest.now c.in_default-ranges_after.ensures)

pub returns-then-fitting_length-ranges-clause-text : goal.returns-then-fitting_length-ranges-clause-text
returns-then-fitting_length-ranges-clause-text c =
    let count = length-map c.in-Some-ranges_after.ranges.now range_of in
    rw (c.in-Some.ensures.cases.0, ← count) (first-sequence c.in-Some.first.now c.in-Some.rest.now _ c.in-Some-ranges_after.ensures
    (sym c.fitting_length.ensures.value ∙ c.if-fitting_length-ranges.true ∙ sym count))

pub returns-else-fitting_length-ranges-clause-none : goal.returns-else-fitting_length-ranges-clause-none
returns-else-fitting_length-ranges-clause-none c =
    let count = length-map c.in-Some-ranges_after.ranges.now range_of in
    λ _. rw c.in-Some.ensures.cases.0 (longest-broken c.in-Some.first.now c.in-Some.rest.now _ c.in-Some-ranges_after.ensures
    (λ e. c.if-fitting_length-ranges.false (c.fitting_length.ensures.value ∙ e ∙ count)))
