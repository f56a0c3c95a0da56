use Rattle.properties_format.proofs.Laws.{splitting-commutes, line_endings-part}
use Rattle.java_properties.proofs.laws.splitting_commutes_with_decoding.Goals as goal

pub returns-clause-lines : goal.returns-clause-lines
returns-clause-lines c = splitting-commutes

pub returns-clause-parts : goal.returns-clause-parts
returns-clause-parts c = line_endings-part
