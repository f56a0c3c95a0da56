use Rattle.properties_format.proofs.Converting.One.{converts-to-one}
use Rattle.properties_format.proofs.Converting.InAscii.{converting-gives-ascii}
use Rattle.properties_format.proofs.Converting.Twice.{converting-twice, readable-anyway}
use Rattle.properties_format.proofs.Converting.Itself.{kept-is-itself, ascii-is-itself}
use Rattle.java_properties.proofs.laws.converting_gives_one.Goals as goal

pub returns-clause-one : goal.returns-clause-one
returns-clause-one c = converts-to-one

pub returns-clause-ascii : goal.returns-clause-ascii
returns-clause-ascii c = converting-gives-ascii

pub returns-clause-twice : goal.returns-clause-twice
returns-clause-twice c = converting-twice

pub returns-clause-anyway : goal.returns-clause-anyway
returns-clause-anyway c = readable-anyway

pub returns-clause-kept : goal.returns-clause-kept
returns-clause-kept c = kept-is-itself

pub returns-clause-kept_ascii : goal.returns-clause-kept_ascii
returns-clause-kept_ascii c = ascii-is-itself
