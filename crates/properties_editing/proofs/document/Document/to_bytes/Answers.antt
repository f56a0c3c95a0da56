use Rattle.std.proofs.Common.{[]}
use Rattle.properties_editing.proofs.SourceParts.{source-removable}
use Rattle.properties_editing.proofs.document.Document.to_bytes.Goals as goal

pub to_bytes-requires-clause-start : goal.to_bytes-requires-clause-start
to_bytes-requires-clause-start c = rw c.deref.ensures.value c.self.invariant.parts.stand.within

pub to_bytes-requires-clause-within : goal.to_bytes-requires-clause-within
to_bytes-requires-clause-within c = rw c.deref.ensures.value (source-removable [] c.self.invariant.parts.stand).1
