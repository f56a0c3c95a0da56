use Rattle.properties_format.proofs.Converting.Laws.{converting-keeps-items, converting-keeps-logical-lines, converting-keeps-endings}
use Rattle.java_properties.proofs.laws.converting_keeps_items.Goals as goal

pub returns-clause-items : goal.returns-clause-items
returns-clause-items c = converting-keeps-items

pub returns-clause-lines : goal.returns-clause-lines
returns-clause-lines c = converting-keeps-logical-lines

pub returns-clause-endings : goal.returns-clause-endings
returns-clause-endings c = converting-keeps-endings
