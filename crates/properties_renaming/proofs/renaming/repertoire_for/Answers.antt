use Rattle.std.proofs.Common.{◌∙◌, ap}
use Rattle.properties_format.specs.Encoding.{all_of, output_encoding}
use Rattle.properties_text.specs.Encoding.{encoding_of}
use Rattle.properties_editing.proofs.Repertoires.{prints-ascii}
use Rattle.properties_renaming.proofs.RenamedKeys.{comments-ascii, prints-keys, prints-same}
use Rattle.properties_renaming.proofs.renaming.repertoire_for.Goals as goal

pub returns-then-options : goal.returns-then-options
returns-then-options c = rw c.if-options.true (let e = output_encoding (encoding_of c.args.encoding) in prints-keys (prints-ascii e) (comments-ascii e))

pub returns-then-options-2 : goal.returns-then-options-2
returns-then-options-2 c = rw (c.if-options.false, c.if-options-2.true) c.latin_1_in.ensures

pub returns : goal.returns
returns c = rw (c.if-options.false, c.if-options-2.false) (prints-same (c.from.ensures ∙ ap all_of c.from-line_encoding.ensures))
