use Rattle.std.proofs.Common.{sym}
use Rattle.std.proofs.lemmas.Str.{chars-nil}
use Rattle.properties_editing.proofs.view.View.line.Goals as goal

pub returns-in-None : goal.returns-in-None
returns-in-None c = rw (sym c.self.view_is, c.in-None.is) chars-nil
