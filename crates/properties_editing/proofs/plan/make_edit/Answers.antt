use Rattle.properties_editing.proofs.plan.make_edit.Goals as goal

pub put-requires : goal.put-requires
put-requires c = rw (c.in-Put.is, ← c.deref.ensures) at c.requires

pub set_value-requires : goal.set_value-requires
set_value-requires c = rw (c.in-SetValue.is, ← c.deref-in-SetValue.ensures) at c.requires

pub remove-requires : goal.remove-requires
remove-requires c = rw (c.in-Remove.is, ← c.deref-in-Remove.ensures) at c.requires

pub returns-in-Put : goal.returns-in-Put
returns-in-Put c = rw (c.in-Put.is, ← c.deref.ensures, ← c.deref-in-Put.ensures) c.put.ensures.parts

pub returns-in-SetValue : goal.returns-in-SetValue
returns-in-SetValue c = rw (c.in-SetValue.is, ← c.deref-in-SetValue.ensures, ← c.deref-in-SetValue-2.ensures) c.set_value.ensures.parts

pub returns-in-Remove : goal.returns-in-Remove
returns-in-Remove c = λ r now named is p.
    let named_key = rw (c.in-Remove.is, ← c.deref-in-Remove.ensures) at is in
    rw (c.in-Remove.is, ← c.deref-in-Remove.ensures) (c.remove.ensures.parts r now named named_key p).0
