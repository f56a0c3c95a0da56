use Rattle.std.proofs.Common.{ap, inl, inr, refl, sym, subst, ◌∙◌}
use Rattle.std.specs.Prelude.{Some}
use Rattle.std.specs.Str.{chars}
use Rattle.properties_format.specs.Computed.Edited.{IsSoundOutcome}
use Rattle.properties_items.specs.BorrowedItems.{outcome_pair}
use Rattle.properties_items.proofs.FoundItems.{found-item}
use Rattle.properties_editing.specs.Private.BodyParts.{AddsTold, gap_with}
use Rattle.properties_editing.proofs.NamedKeys.{told-other}
use Rattle.properties_editing.proofs.PassedOver.{passed-no_pair}
use Rattle.properties_editing.proofs.parts.Parts.read_group.Goals as goal

pub returns-then-are_passed_over : goal.returns-then-are_passed_over
returns-then-are_passed_over c =
    let a = c.args in
    let passed = sym c.are_passed_over.ensures ∙ c.if-are_passed_over.true in
    let none = passed-no_pair a.comments _ passed in (
      inr passed,
      subst (λ told. AddsTold a.body.now a.group a.next told a.gap a.self.now c.with_group.result a.self.now) (sym none.1) (record { parts = refl; keys = refl; gap_after = c.with_group.ensures }),
    )

pub returns-then-not-may_have : goal.returns-then-not-may_have
returns-then-not-may_have c =
    let a = c.args in
    let said = rw c.in-Some.is at c.plain_key_size.ensures in
    let told = sym c.if-not-may_have.true ∙ c.may_have.ensures in
    let other =
    told-other a.body.now (chars a.line.now) a.group a.next a.gap c.with_group-then-not-may_have.result said.0 c.in-Some.size a.self.now
    c.requires.masked said.1 said.2 told (c.with_group-then-not-may_have.ensures ∙ ap (λ s. gap_with a.gap a.group.start (Some s)) c.span.ensures) in
    (inl other.0, other.1)

pub returns-in_default-pair_texts : goal.returns-in_default-pair_texts
returns-in_default-pair_texts c =
    let a = c.args in
    let found = rw c.in-Some-2.is at c.in_ok-found.ensures in
    let item = found-item a.line.now c.in-Some-2.found found.1 in
    let told = c.in_default-pair_texts.ensures ∙ ap outcome_pair (sym item) in
    let adds = c.with_group-in_default-pair_texts in (
      inl (subst IsSoundOutcome (sym item) tt),
      subst (λ told. AddsTold a.body.now a.group a.next told a.gap a.self.now adds.result a.self.now) told (record { parts = refl; keys = refl; gap_after = adds.ensures }),
    )

pub returns : goal.returns
returns c =
    let a = c.args in
    let found = rw c.in-Some-2.is at c.in_ok-found.ensures in
    let item = found-item a.line.now c.in-Some-2.found found.1 in
    let told = c.in-Some-pair_texts.ensures ∙ ap outcome_pair (sym item) in (
      inl (subst IsSoundOutcome (sym item) tt),
      subst (λ told. AddsTold a.body.now a.group a.next told a.gap a.self.now c.in_ok-add_pair.field-0 c.add_pair.new.self) told c.in_ok-add_pair.ensures,
    )
