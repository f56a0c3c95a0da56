use Rattle.std.proofs.Common.{◌≡◌, ◌∙◌, false, refl, sym, true}
use Rattle.properties_format.specs.Computed.Lines.{ends_in_cr}
use Rattle.properties_renaming.proofs.commenting.line_feed_after.Goals as goal

pub returns-then-ends_in_cr : goal.returns-then-ends_in_cr
returns-then-ends_in_cr c = let on : ends_in_cr c.args.front.now ≡ true = sym c.ends_in_cr.ensures ∙ c.if-ends_in_cr.true in rw on refl

pub returns-else-ends_in_cr : goal.returns-else-ends_in_cr
returns-else-ends_in_cr c = let off : ends_in_cr c.args.front.now ≡ false = sym c.ends_in_cr.ensures ∙ c.if-ends_in_cr.false in rw off refl
