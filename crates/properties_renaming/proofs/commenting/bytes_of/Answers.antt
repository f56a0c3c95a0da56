use Rattle.properties_renaming.proofs.NewComments.{held-at}
use Rattle.properties_renaming.proofs.commenting.bytes_of.Goals as goal

pub returns : goal.returns
returns c = λ g h. (held-at h).bytes
