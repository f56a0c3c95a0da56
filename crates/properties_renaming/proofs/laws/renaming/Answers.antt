use Rattle.properties_renaming.proofs.RenamedContents.{renaming-again, renaming-back, renaming-contents, renaming-moves}
use Rattle.properties_renaming.proofs.laws.renaming.Goals as goal

pub returns-clause-contents : goal.returns-clause-contents
returns-clause-contents c = renaming-contents

pub returns-clause-map : goal.returns-clause-map
returns-clause-map c = renaming-moves

pub returns-clause-back : goal.returns-clause-back
returns-clause-back c = renaming-back

pub returns-clause-again : goal.returns-clause-again
returns-clause-again c = renaming-again
