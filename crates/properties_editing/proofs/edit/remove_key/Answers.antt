use Rattle.std.specs.Str.{chars}
use Rattle.properties_format.proofs.Laws.{splitting-commutes}
use Rattle.properties_text.specs.Encoding.{encoding_of}
use Rattle.properties_editing.proofs.Editing.{returns-removed}
use Rattle.properties_editing.proofs.edit.remove_key.Goals as goal

pub returns-clause-removes : goal.returns-clause-removes
returns-clause-removes c = returns-removed (encoding_of c.args.encoding) c.args.source.now (chars c.args.key.now) _ (rw c.new.ensures at c.edit_once.ensures)

pub returns-clause-splitting : goal.returns-clause-splitting
returns-clause-splitting c = splitting-commutes (encoding_of c.args.encoding) c.args.source.now
