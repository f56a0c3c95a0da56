use Rattle.std.proofs.Common.{ap, sym, ◌∙◌}
use Rattle.properties_items.specs.Line.{ending_of}
use Rattle.properties_editing.specs.declared.parts.endings.FoundEnding.{FoundEnding}
use Rattle.properties_editing.proofs.PartEndings.{feed-alone, feed-last}
use Rattle.properties_editing.proofs.parts.endings.line_feed_after.Goals as goal
use Rattle.properties_editing.proofs.parts.endings.line_feed_after.Goals.{then-ends_in_cr, else-ends_in_cr}
use Rattle.properties_editing.proofs.BodyGroups.{no-bytes}

pub returns : goal.returns
returns c =
    let front = c.args.front.now in
    let found : FoundEnding = record { ending = c.if-ends_in_cr.ending; is_first = c.is_empty.result } in
    let first = c.is_empty.ensures ∙ no-bytes front in
    elim c.if-ends_in_cr.branch [
      | then-ends_in_cr w ↦ feed-last front found (sym c.ends_in_cr.ensures ∙ w.if-ends_in_cr.true) (ap ending_of w.ending-is) first
      | else-ends_in_cr w ↦ feed-alone front found (sym c.ends_in_cr.ensures ∙ w.if-ends_in_cr.false) (ap ending_of w.ending-is) first
    ]
