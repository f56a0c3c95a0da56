use Rattle.std.proofs.Common.{◌∙◌, ap, sym}
use Rattle.std.specs.Str.{chars}
use Rattle.properties_items.specs.BorrowedItems.{outcome_pair}
use Rattle.properties_items.proofs.FoundItems.{found-item}
use Rattle.properties_renaming.proofs.keyed.key_in.Goals as goal

pub returns-in-Some-pair_texts : goal.returns-in-Some-pair_texts
returns-in-Some-pair_texts c =
    let found = rw c.in-Some.is at c.requires in (
      chars c.in-Some-pair_texts.field-0-1.now,
      ap outcome_pair (found-item c.args.line.now c.in-Some.found found) ∙ sym c.in-Some-pair_texts.ensures,
    )

pub returns-in-None : goal.returns-in-None
returns-in-None c =
    let found = rw c.in-Some.is at c.requires in
    ap outcome_pair (found-item c.args.line.now c.in-Some.found found) ∙ sym c.in-None.ensures
