use Rattle.std.proofs.Common.{sym}
use Rattle.properties_editing.proofs.BodyDocuments.{ascii-turned}
use Rattle.properties_editing.proofs.document.Document.set_ascii_only.Goals as goal

pub invariant_of-self : goal.invariant_of-self
invariant_of-self c = (ascii-turned c.self.inside c.self.invariant c.args.ascii_only).0

pub returns : goal.returns
returns c = rw (sym c.self.view_is) (ascii-turned c.self.inside c.self.invariant c.args.ascii_only).1
