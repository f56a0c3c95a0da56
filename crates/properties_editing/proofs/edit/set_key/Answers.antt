use Rattle.std.specs.Str.{chars}
use Rattle.properties_format.proofs.Laws.{splitting-commutes}
use Rattle.properties_items.proofs.Scalars.{chars-scalars}
use Rattle.properties_text.specs.Encoding.{encoding_of}
use Rattle.properties_editing.proofs.Editing.{returns-set}
use Rattle.properties_editing.proofs.edit.set_key.Goals as goal
use Rattle.properties_format.specs.Encoding.{all_of}

pub returns-clause-sets : goal.returns-clause-sets
returns-clause-sets c =
    returns-set (all_of (encoding_of c.args.encoding)) c.args.source.now (chars c.args.key.now) (chars c.args.value.now)
    (chars-scalars c.args.key.now c.utf8.key) (chars-scalars c.args.value.now c.utf8.value) _ (rw c.new.ensures at c.edit_once.ensures)

pub returns-clause-splitting : goal.returns-clause-splitting
returns-clause-splitting c = splitting-commutes (encoding_of c.args.encoding) c.args.source.now
