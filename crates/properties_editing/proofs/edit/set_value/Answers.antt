use Rattle.std.specs.Str.{chars}
use Rattle.properties_items.proofs.Scalars.{chars-scalars}
use Rattle.properties_text.specs.Encoding.{encoding_of}
use Rattle.properties_editing.proofs.Editing.{returns-value}
use Rattle.properties_editing.proofs.edit.set_value.Goals as goal
use Rattle.properties_format.specs.Encoding.{all_of}

pub returns : goal.returns
returns c = record {
  sets =
      returns-value (all_of (encoding_of c.args.encoding)) c.args.source.now (chars c.args.key.now) (chars c.args.value.now)
      (chars-scalars c.args.key.now c.utf8.key) (chars-scalars c.args.value.now c.utf8.value) _ (rw c.new.ensures at c.edit_once.ensures);
}
