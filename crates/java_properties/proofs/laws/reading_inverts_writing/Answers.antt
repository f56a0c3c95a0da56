use Rattle.properties_format.proofs.Laws.{reading-inverts_writing, equal-bytes, writing-anew, map-read_back}
use Rattle.java_properties.proofs.laws.reading_inverts_writing.Goals as goal

pub returns-clause-items : goal.returns-clause-items
returns-clause-items c = reading-inverts_writing

pub returns-clause-equal : goal.returns-clause-equal
returns-clause-equal c = equal-bytes

pub returns-clause-anew : goal.returns-clause-anew
returns-clause-anew c = writing-anew

pub returns-clause-map : goal.returns-clause-map
returns-clause-map c = map-read_back
