use Rattle.std.proofs.Common.{subst, ◌∙◌}
use Rattle.properties_editing.specs.Private.BodyParts.{NamesKey}
use Rattle.properties_editing.proofs.EditedLists.{named-more}
use Rattle.properties_editing.proofs.plan.keys_of.Goals as goal

pub loop-edit-preserved : goal.loop-edit-preserved
loop-edit-preserved c =
    let m = subst (λ k. NamesKey k c.loop-edit.keys c.name.new.self) c.key_of.ensures c.in_ok-name.ensures in (
      m.unplaced,
      m.all ∙ c.loop-edit.invariant.1,
      named-more c.loop-edit.keys c.name.new.self c.args.edits.now c.loop-edit.edit-index _ c.edit-item.result c.loop-edit-test.true c.edit-item.is m c.loop-edit.invariant.2,
    )
