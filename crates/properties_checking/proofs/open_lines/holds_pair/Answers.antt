use Rattle.std.proofs.Common.{sym, ◌∙◌}
use Rattle.properties_checking.proofs.OpenLines.{pair-absent, pair-found}
use Rattle.properties_checking.proofs.open_lines.holds_pair.Goals as goal

pub returns-then-not-holds : goal.returns-then-not-holds
returns-then-not-holds c = sym (pair-absent c.args.byte c.args.bytes.now (sym c.holds.ensures ∙ c.if-not-holds.true))

pub returns : goal.returns
returns c = c.is_some.ensures ∙ pair-found c.args.byte c.args.bytes.now c.find.result c.find.ensures
