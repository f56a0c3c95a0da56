use Rattle.std.proofs.Common.{sym}
use Rattle.properties_editing.proofs.BodyDocuments.{have-places, keys-made}
use Rattle.properties_editing.proofs.document.Document.keys.Goals as goal

pub keys_in_order-requires : goal.keys_in_order-requires
keys_in_order-requires c = have-places c.self.inside c.self.invariant

pub returns : goal.returns
returns c = rw (sym c.self.view_is) (keys-made c.self.inside c.self.invariant c.keys_in_order.result c.keys_in_order.ensures)
