use Rattle.std.proofs.Common.{◌≡◌}
use Rattle.std.specs.Str.{chars}
use Rattle.properties_items.specs.BorrowedItems.{borrowed_content, found_content}
use Rattle.properties_items.proofs.FoundItems.{found-item}
use Rattle.properties_tables.proofs.FindingFolds.{takes-item}
use Rattle.properties_tables.proofs.fold.take_line.Goals as goal

pub returns-in_ok-take_item-in-Ok-Some : goal.returns-in_ok-take_item-in-Ok-Some
returns-in_ok-take_item-in-Ok-Some g c =
    let item = found-item c.args.line.now c.in-Ok-Some.found (rw c.in-Ok-Some.field-0-is at c.in-Ok-Some.ensures).1 in
    let content : borrowed_content c.cut_item-item.result.content ≡ found_content c.args.line.now c.in-Ok-Some.found.content =
    let i = c.cut_item-item.ensures.item in cc in
    takes-item g.T.Taker.took c.args.line_number (chars c.args.line.now) c.args.taker.now c.take_item.new.taker _ item
    (rw content at c.in_ok-take_item-in-Ok-Some.ensures)
