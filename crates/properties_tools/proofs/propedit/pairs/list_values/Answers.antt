use Rattle.properties_tools.proofs.ListedKeys.{last-pairs}
use Rattle.properties_tools.proofs.propedit.pairs.list_values.Goals as goal

pub listed-requires : goal.listed-requires
listed-requires c = c.in_ok-table.ensures.1

pub returns : goal.returns
returns c =
    let read = c.in_ok-table.ensures in
    record { sound = read.0; pairs = _; are = last-pairs read.2; prints = c.in_ok-listed.ensures }
