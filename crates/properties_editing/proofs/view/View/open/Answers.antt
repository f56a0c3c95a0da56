use Rattle.properties_editing.proofs.OpenViews.{opens-view}
use Rattle.properties_editing.proofs.view.View.open.Goals as goal

pub returns : goal.returns
returns c = (opens-view c.in_ok-walk.ensures).1
