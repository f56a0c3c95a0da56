use Rattle.std.proofs.Common.{ap, ◌∙◌}
use Rattle.std.specs.Prelude.{filter_map}
use Rattle.std.proofs.lemmas.List.{take_all}
use Rattle.properties_editing.specs.Private.KeyOrder.{key_at}
use Rattle.properties_editing.proofs.KeyOrder.{found-more, found-none, tells-keys}
use Rattle.properties_editing.proofs.parts.Parts.keys_in_order.Goals as goal
use Rattle.properties_editing.proofs.parts.Parts.keys_in_order.Goals.{in-Some+in_ok-push, in_default}

pub loop-first-preserved : goal.loop-first-preserved
loop-first-preserved c =
    let firsts = c.deref-first-items.result.now in
    let i = c.loop-first.first-index in
    let keys = c.loop-first.keys.items in
    elim c.match-first.branch [
      | in-Some+in_ok-push w ↦
          rw (w.keys-is, w.in_ok-push.ensures.items)
          (found-more firsts i keys w.in-Some.key c.loop-first-test.true w.in-Some.is c.loop-first.invariant)
      | in_default w ↦ rw w.keys-is (found-none firsts i keys c.loop-first-test.true w.in_default.is c.loop-first.invariant)
    ]

pub returns : goal.returns
returns c =
    let firsts = c.deref-first-items.result.now in
    let all = take_all c.loop-first.first-index firsts c.loop-first-test.false ∙ c.deref-first-items.ensures.value in
    tells-keys c.args.self.now c.in_ok-firsts.firsts.items c.loop-first.keys.items c.in_ok-firsts.ensures
    (c.loop-first.invariant ∙ ap (filter_map key_at) all)
