use Rattle.std.proofs.Common.{refl}
use Rattle.properties_text.proofs.Windows1252.{text-at}
use Rattle.properties_text.proofs.encoding.windows_1252.text_of_byte.Goals as goal

pub returns : goal.returns
returns c = rw (c.from-2.ensures, c.from.ensures) (text-at c.args.byte _ c.ranges.byte.fits refl refl)
