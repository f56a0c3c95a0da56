use Rattle.java_properties.proofs.ReadBack.Scalars.{settings-good}
use Rattle.java_properties.proofs.writer.settings.Settings.are_always_good.Goals as goal

pub returns : goal.returns
returns c = rw (← c.self.view_is) (settings-good c.self.inside c.self.invariant)
