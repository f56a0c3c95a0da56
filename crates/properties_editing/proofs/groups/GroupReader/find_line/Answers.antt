use Rattle.properties_editing.proofs.BodyGroups.{takes-line}
use Rattle.properties_editing.proofs.groups.GroupReader.find_line.Goals as goal

pub returns-in-Line : goal.returns-in-Line
returns-in-Line c = takes-line c.args.body.now c.args.self.now c.next.new.self c.requires c.in-Line.ensures
