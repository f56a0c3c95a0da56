use Rattle.std.proofs.Common.{sym}
use Rattle.std.specs.Str.{chars}
use Rattle.properties_items.proofs.Scalars.{chars-scalars}
use Rattle.properties_editing.proofs.BodyDocuments.{have-parts, value-ends}
use Rattle.properties_editing.proofs.document.Document.set_value.Goals as goal

pub set_value-requires : goal.set_value-requires
set_value-requires c = rw c.deref.ensures.value (have-parts c.self.inside c.self.invariant (chars c.args.key.now))

pub invariant_of-self : goal.invariant_of-self
invariant_of-self c =
    (value-ends c.self.inside c.self.invariant c.set_value.new.edited c.set_value.ensures.all (chars c.args.key.now) (chars c.args.value.now) c.set_value.result
    (chars-scalars c.args.key.now c.utf8.key) (chars-scalars c.args.value.now c.utf8.value) (rw c.deref.ensures.value at c.set_value.ensures.parts)).0

pub returns : goal.returns
returns c =
    rw (sym c.self.view_is)
    (value-ends c.self.inside c.self.invariant c.set_value.new.edited c.set_value.ensures.all (chars c.args.key.now) (chars c.args.value.now) c.set_value.result
    (chars-scalars c.args.key.now c.utf8.key) (chars-scalars c.args.value.now c.utf8.value) (rw c.deref.ensures.value at c.set_value.ensures.parts)).1
