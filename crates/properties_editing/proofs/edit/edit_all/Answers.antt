use Rattle.properties_format.specs.Encoding.{all_of}
use Rattle.properties_format.proofs.Laws.{splitting-commutes}
use Rattle.properties_text.specs.Encoding.{encoding_of}
use Rattle.properties_editing.specs.Editing.{edits_in}
use Rattle.properties_editing.proofs.Editing.{edits-scalars}
use Rattle.properties_editing.proofs.EditsInTurn.{returns-all}
use Rattle.properties_editing.proofs.edit.edit_all.Goals as goal

pub returns-clause-edits : goal.returns-clause-edits
returns-clause-edits c =
    returns-all (all_of (encoding_of c.args.encoding)) c.args.source.now (edits_in c.args.edits.now) (edits-scalars c.args.edits.now) _
    (rw c.new.ensures at c.edit_source.ensures)

pub returns-clause-splitting : goal.returns-clause-splitting
returns-clause-splitting c = splitting-commutes (encoding_of c.args.encoding) c.args.source.now
