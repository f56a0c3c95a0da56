use Rattle.properties_format.specs.Encoding.{output_encoding}
use Rattle.properties_text.specs.Encoding.{encoding_of}
use Rattle.properties_editing.proofs.Repertoires.{prints-ascii}
use Rattle.properties_editing.proofs.new_pair.repertoire_of.Goals as goal

pub returns-then-opened : goal.returns-then-opened
returns-then-opened c = rw c.if-opened.true (prints-ascii (output_encoding (encoding_of c.args.opened.encoding)))

pub returns-then-opened-2 : goal.returns-then-opened-2
returns-then-opened-2 c = rw (c.if-opened.false, c.if-opened-2.true) c.latin_1_in.ensures
