use Rattle.std.proofs.Common.{rules}
use Rattle.properties_c.proofs.{GivenParts.front-done, GivenParts.front-other, part.front_items.Goals.in-Done+in_ok-push_end, part.front_items.Goals.in_default}
use Rattle.properties_c.proofs.part.front_items.Goals as goal

pub returns : goal.returns
returns c = elim c.match-items.branch [
  | in-Done+in_ok-push_end w ↦
      front-done c.in_ok-items.items c.match-items.items c.in_ok-items.ensures (search rules) (search rules) (search rules) (search rules)
  | in_default w ↦ rw w.items-is (front-other c.in_ok-items.items c.in_ok-items.ensures w.in_default.not-Done)
]
