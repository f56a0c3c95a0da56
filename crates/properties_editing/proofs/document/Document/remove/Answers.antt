use Rattle.std.proofs.Common.{sym}
use Rattle.std.specs.Str.{chars}
use Rattle.properties_editing.proofs.BodyDocuments.{have-parts, remove-ends}
use Rattle.properties_editing.proofs.document.Document.remove.Goals as goal

pub remove-requires : goal.remove-requires
remove-requires c = rw c.deref.ensures.value (have-parts c.self.inside c.self.invariant (chars c.args.key.now))

pub invariant_of-self : goal.invariant_of-self
invariant_of-self c =
    (remove-ends c.self.inside c.self.invariant c.remove.new.edited c.remove.ensures.all (chars c.args.key.now) c.remove.result (rw c.deref.ensures.value at c.remove.ensures.parts)).0

pub returns : goal.returns
returns c =
    rw (sym c.self.view_is)
    (remove-ends c.self.inside c.self.invariant c.remove.new.edited c.remove.ensures.all (chars c.args.key.now) c.remove.result (rw c.deref.ensures.value at c.remove.ensures.parts)).1
