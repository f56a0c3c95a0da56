use Rattle.std.proofs.Common.{refl, subst, sym}
use Rattle.properties_format.specs.Encoding.{latin_1_in, output_encoding}
use Rattle.properties_text.specs.Encoding.{encoding_of}
use Rattle.properties_text.specs.declared.print.Repertoire.TheVariants.{Latin1}
use Rattle.properties_editing.proofs.Repertoires.{prints-latin_1_in}
use Rattle.properties_renaming.specs.Private.Renaming.{PrintsKeys}
use Rattle.properties_renaming.proofs.RenamedKeys.{comments-latin_1, prints-keys, prints-same}
use Rattle.properties_renaming.proofs.renaming.latin_1_in.Goals as goal

pub returns-in-WINDOWS_1252 : goal.returns-in-WINDOWS_1252
returns-in-WINDOWS_1252 c = subst (λ e. PrintsKeys (latin_1_in (output_encoding (encoding_of e))) Latin1) (sym c.in-WINDOWS_1252.is) (prints-same refl)

pub returns-in_default : goal.returns-in_default
returns-in_default c = prints-keys (prints-latin_1_in c.args.encoding c.in_default.not-WINDOWS_1252) (comments-latin_1 c.args.encoding c.in_default.not-WINDOWS_1252)
