use Rattle.properties_format.proofs.Laws.{one-reading, one-pieces, one-text, one-lines, one-groups, one-split, one-meaning}
use Rattle.java_properties.proofs.laws.one_reading.Goals as goal

pub returns-clause-input : goal.returns-clause-input
returns-clause-input c = one-reading

pub returns-clause-pieces : goal.returns-clause-pieces
returns-clause-pieces c = one-pieces

pub returns-clause-text : goal.returns-clause-text
returns-clause-text c = one-text

pub returns-clause-lines : goal.returns-clause-lines
returns-clause-lines c = one-lines

pub returns-clause-groups : goal.returns-clause-groups
returns-clause-groups c = one-groups

pub returns-clause-split : goal.returns-clause-split
returns-clause-split c = one-split

pub returns-clause-meaning : goal.returns-clause-meaning
returns-clause-meaning c = one-meaning
