use Rattle.properties_text.specs.Encoding.{encoding_of}
use Rattle.properties_editing.proofs.BodyGroups.{tells-line}
use Rattle.properties_editing.proofs.groups.is_line.Goals as goal

pub returns-then-line : goal.returns-then-line
returns-then-line c = rw c.if-line.true (tells-line (encoding_of c.args.encoding) c.args.bytes.now c.args.line c.requires c.if-line.true)
