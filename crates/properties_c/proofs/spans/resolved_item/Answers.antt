use Rattle.properties_c.proofs.GivenLines.{item-outcome}
use Rattle.properties_c.proofs.spans.resolved_item.Goals as goal

pub returns-in-Ok-Some : goal.returns-in-Ok-Some
returns-in-Ok-Some c =
    let found = rw c.in-Ok-Some.field-0-is at c.in-Ok-Some.ensures in
    item-outcome c.args.line.now c.in-Ok-Some.found c.cut_item.result found.1 c.cut_item.ensures.item
