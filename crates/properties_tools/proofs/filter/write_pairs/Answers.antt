use Rattle.std.proofs.Common.{◌≡◌, ap, ◌∙◌}
use Rattle.std.specs.Prelude.{Err}
use Rattle.java_properties.specs.declared.copy.CopyError.TheVariants.{Read, Write}
use Rattle.properties_tools.proofs.Filtering.{copied-all, stops-reading, returns}
use Rattle.properties_tools.proofs.filter.write_pairs.Goals as goal

pub returns-in-Ok-clause-filters : goal.returns-in-Ok-clause-filters
returns-in-Ok-clause-filters g c =
    let stops = rw c.in-Ok.is at (copied-all c.requires.reading c.requires.writing c.copy_pairs.ensures.copies) in
    returns stops.1 c.finish.new.self c.finish.result stops.2 c.finish.ensures.flushes

pub returns-in-Err-Read-clause-filters : goal.returns-in-Err-Read-clause-filters
returns-in-Err-Read-clause-filters g c =
    let is : c.copy_pairs.result ≡ Err (Read c.in-Err-Read.error) = c.in-Err-Read.is ∙ ap Err c.in-Err-Read.field-0-is in
    let stops = rw is at (copied-all c.requires.reading c.requires.writing c.copy_pairs.ensures.copies) in
    stops-reading stops.1 c.flush.new.self c.flush.result stops.2 stops.3 c.flush.ensures.flushes

pub returns-in-Err-Write-clause-filters : goal.returns-in-Err-Write-clause-filters
returns-in-Err-Write-clause-filters g c =
    let is : c.copy_pairs.result ≡ Err (Write c.in-Err-Write.error) = c.in-Err-Write.is ∙ ap Err c.in-Err-Write.field-0-is in
    rw is at (copied-all c.requires.reading c.requires.writing c.copy_pairs.ensures.copies)
