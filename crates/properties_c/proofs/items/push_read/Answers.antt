use Rattle.std.proofs.Common.{◌≡◌, ◌++◌, ◌∙◌, ap}
use Rattle.properties_items.specs.BorrowedItems.{borrowed_content}
use Rattle.properties_c.specs.Packed.{item_record, packed, record_in}
use Rattle.properties_c.proofs.{GivenLines.item-outcome, Texts.item-content}
use Rattle.properties_c.proofs.items.push_read.Goals as goal

pub returns : goal.returns
returns c =
    let found = rw c.in-Some.is at c.in_ok-found.ensures in
    let content = borrowed_content c.cut_item-item.result.content in
    let same : borrowed_content c.content-content.result.now ≡ content = ap borrowed_content c.content-content.ensures in
    let given_record : record_in c.item_record.result ≡ item_record c.args.number content =
    c.item_record.ensures ∙ rw (c.item_kind.ensures, same) (item-content c.args.number content) in
    rw (item-outcome c.args.line.now c.in-Some.found c.cut_item-item.result found.1 c.cut_item-item.ensures.item)
    (c.in_ok-push_record.ensures ∙ ap (λ r. c.args.bytes.now.items ++ packed r) given_record)
