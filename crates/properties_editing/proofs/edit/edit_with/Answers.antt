use Rattle.properties_format.proofs.Laws.{splitting-commutes}
use Rattle.properties_text.specs.Encoding.{encoding_of}
use Rattle.properties_editing.specs.Editing.{asked_for, edits_in}
use Rattle.properties_editing.proofs.Editing.{edits-scalars}
use Rattle.properties_editing.proofs.EditsInTurn.{returns-for}
use Rattle.properties_editing.proofs.edit.edit_with.Goals as goal

pub returns-clause-edits : goal.returns-clause-edits
returns-clause-edits c =
    returns-for c.args.options.comments (asked_for c.args.options) c.args.source.now (edits_in c.args.edits.now) (edits-scalars c.args.edits.now) _ c.edit_source.ensures

pub returns-clause-splitting : goal.returns-clause-splitting
returns-clause-splitting c = splitting-commutes (encoding_of c.args.options.encoding) c.args.source.now
