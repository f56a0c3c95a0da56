use Rattle.properties_editing.proofs.Repertoires.{prints-latin_1_in}
use Rattle.properties_editing.proofs.new_pair.latin_1_in.Goals as goal

pub returns-in_default : goal.returns-in_default
returns-in_default c = prints-latin_1_in c.args.encoding c.in_default.not-WINDOWS_1252
