use Rattle.std.proofs.Common.{sym}
use Rattle.std.proofs.lemmas.Str.{chars-nil}
use Rattle.properties_format.specs.Split.{blank}
use Rattle.properties_editing.proofs.OpenViews.{raw-key}
use Rattle.properties_editing.proofs.view.View.raw_key.Goals as goal

pub returns-in-Some : goal.returns-in-Some
returns-in-Some c =
    let viewed = rw c.in-Some.is at c.self.invariant.has_group in
    rw (sym c.self.view_is, c.in-Some.is, c.raw_key.ensures) (raw-key viewed)

pub returns-in-None : goal.returns-in-None
returns-in-None c = rw (sym c.self.view_is, c.in-None.is) (blank, (tt, chars-nil))
