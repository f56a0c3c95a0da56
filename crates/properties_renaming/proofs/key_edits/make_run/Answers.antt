use Rattle.properties_renaming.proofs.EditRuns.{removals-run}
use Rattle.properties_renaming.proofs.key_edits.make_run.Goals as goal

pub returns-in-RemoveWithComment : goal.returns-in-RemoveWithComment
returns-in-RemoveWithComment c =
    removals-run c.args.options c.args.source.now c.args.run.now c.in-Some.first.now c.in-RemoveWithComment.field-0 c.make_removals.result
    c.in-Some.ensures.value c.in-RemoveWithComment.is c.make_removals.ensures
