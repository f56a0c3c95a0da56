use Rattle.std.proofs.Common.{◌≡◌, ◌<◌, ◌≤◌, [], ◌∷◌, ◌++◌, length, get_or, take, drop, ◌+◌, ap, refl, sym, subst, ◌∙◌, arith}
use Rattle.std.proofs.lemmas.List.{drop_more, take-append-drop, take_all, take_more}
use Rattle.std.proofs.lemmas.Result.{err_from_is_err_and}
use Rattle.std.specs.Prelude.{Ok, Err}
use Rattle.properties_text.specs.Encoding.{encoding_of}
use Rattle.properties_changing.specs.Change.{ChangesByStep, Leave}
use Rattle.properties_changing.proofs.Steps.{leave-more}
use Rattle.properties_changing.proofs.change.changed_in_turn.Goals as goal

pub loop-step-preserved : goal.loop-step-preserved
loop-step-preserved c =
    let e = encoding_of c.args.encoding in
    let source = c.args.source.now in
    let first = c.args.steps.now.first in
    let others = c.args.steps.now.others.items in
    let i = c.loop-step.step-index in
    let below : i < length others = omega arith in
    let one = c.step-item.result in
    let next = c.in_ok-bytes-2.bytes in
    let is : one ≡ get_or others i one = c.step-item.is ∙ ap (λ s. get_or s i one) c.deref-step-items.ensures.value in
    let more = take_more others i one below ∙ ap (λ s. take i others ++ s ∷ []) (sym is) in
    let made = subst (λ b. ChangesByStep e b one (Ok next)) c.deref.ensures.value c.in_ok-bytes-2.ensures in
    subst (λ s. Leave e source (first ∷ s) next.items) (sym more)
    (leave-more e source (first ∷ take i others) c.loop-step.bytes.items one next c.loop-step.invariant made)

pub returns-in_err-bytes : goal.returns-in_err-bytes
returns-in_err-bytes c =
    let error = err_from_is_err_and c.from_residual.result c.from_residual.ensures.1 in
    rw (error.1, error.2) (record {
      before = [];
      failed = c.args.steps.now.first;
      after = c.args.steps.now.others.items;
      division = refl;
      left = c.args.source.now;
      leave = refl;
      fails = c.in_err-bytes.ensures;
    })

pub returns-in_err-bytes-2 : goal.returns-in_err-bytes-2
returns-in_err-bytes-2 c =
    let e = encoding_of c.args.encoding in
    let first = c.args.steps.now.first in
    let others = c.args.steps.now.others.items in
    let i = c.loop-step.step-index in
    let below : i < length others = omega arith in
    let one = c.step-item.result in
    let is : one ≡ get_or others i one = c.step-item.is ∙ ap (λ s. get_or s i one) c.deref-step-items.ensures.value in
    let rest = drop_more others i one below ∙ ap (λ s. s ∷ drop (i + 1) others) (sym is) in
    let error = err_from_is_err_and c.from_residual-in_err-bytes-2.result c.from_residual-in_err-bytes-2.ensures.1 in
    rw (error.1, error.2) (record {
      before = first ∷ take i others;
      failed = one;
      after = drop (i + 1) others;
      division = ap (λ s. first ∷ s) (sym (take-append-drop i others) ∙ ap (λ s. take i others ++ s) rest);
      left = c.loop-step.bytes.items;
      leave = c.loop-step.invariant;
      fails = subst (λ b. ChangesByStep e b one (Err c.in_err-bytes-2.field-0.0)) c.deref.ensures.value c.in_err-bytes-2.ensures;
    })

pub returns : goal.returns
returns c =
    let steps = c.args.steps.now in
    let others = steps.others.items in
    let i = c.loop-step.step-index in
    let test = c.loop-step-test.false in
    let end : length others ≤ i = omega arith in
    subst (λ s. Leave (encoding_of c.args.encoding) c.args.source.now (steps.first ∷ s) c.loop-step.bytes.items) (take_all i others end) c.loop-step.invariant
