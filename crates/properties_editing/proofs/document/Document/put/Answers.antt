use Rattle.std.proofs.Common.{sym}
use Rattle.std.specs.Str.{chars}
use Rattle.properties_items.proofs.Scalars.{chars-scalars}
use Rattle.properties_editing.proofs.BodyDocuments.{have-parts, put-ends}
use Rattle.properties_editing.proofs.document.Document.put.Goals as goal

pub put-requires : goal.put-requires
put-requires c = rw c.deref.ensures.value (have-parts c.self.inside c.self.invariant (chars c.args.key.now))

pub invariant_of-self : goal.invariant_of-self
invariant_of-self c =
    (put-ends c.self.inside c.self.invariant c.put.new.edited c.put.ensures.all (chars c.args.key.now) (chars c.args.value.now) c.put.result
    (chars-scalars c.args.key.now c.utf8.key) (chars-scalars c.args.value.now c.utf8.value) (rw c.deref.ensures.value at c.put.ensures.parts)).0

pub returns : goal.returns
returns c =
    rw (sym c.self.view_is)
    (put-ends c.self.inside c.self.invariant c.put.new.edited c.put.ensures.all (chars c.args.key.now) (chars c.args.value.now) c.put.result
    (chars-scalars c.args.key.now c.utf8.key) (chars-scalars c.args.value.now c.utf8.value) (rw c.deref.ensures.value at c.put.ensures.parts)).1
