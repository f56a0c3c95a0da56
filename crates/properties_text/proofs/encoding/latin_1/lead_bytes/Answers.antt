use Rattle.properties_text.proofs.Latin1.{leads-are}
use Rattle.properties_text.proofs.encoding.latin_1.lead_bytes.Goals as goal

pub returns : goal.returns
returns c = leads-are c.args.v c.fits-v.0
