use Rattle.std.proofs.Common.{refl, ap, ◌∙◌, subst, sym}
use Rattle.std.specs.Str.{chars}
use Rattle.properties_format.specs.Computed.Edited.{IsSoundOutcome}
use Rattle.properties_items.specs.BorrowedItems.{TellsKeySize, found_bytes, outcome_pair}
use Rattle.properties_items.proofs.FoundItems.{found-item}
use Rattle.properties_items.proofs.found.plain_key_size.Goals as goal

pub returns-in-Comment : goal.returns-in-Comment
returns-in-Comment c =
    let line = c.args.line.now in
    let found = c.in_ok-found in
    let item = found-item line found.found found.ensures.1 in
    rw (item, c.in-Comment.is) (tt, refl)

pub returns : goal.returns
returns c =
    let line = c.args.line.now in
    let found = c.in_ok-found in
    let item = found-item line found.found found.ensures.1 in
    ((chars (found_bytes line c.in-KVPair.key), chars (found_bytes line c.in-KVPair.field-1)), rw (item, c.in-KVPair.is) refl, c.size.ensures)
