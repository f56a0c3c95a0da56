use Rattle.java_properties.proofs.Items.{gives-owned}
use Rattle.java_properties.proofs.iter.items.ItemReader.next_item.Goals as goal

pub returns-in-Ok-clause-gives : goal.returns-in-Ok-clause-gives
returns-in-Ok-clause-gives g c =
    let finds = rw c.in-Ok.is at c.in_ok-found.ensures.finds in
    gives-owned c.in-Ok.found c.advance.new.self c.own.new.self c.own.result finds.0 c.own.ensures
