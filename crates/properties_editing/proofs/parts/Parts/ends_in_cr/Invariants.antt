use Rattle.std.proofs.Common.{◌≡◌, ◌≤◌, take, length}
use Rattle.properties_editing.specs.Private.PartEndings.{last_some, part_cr_end}
use Rattle.properties_editing.proofs.parts.Parts.ends_in_cr.Given as goal

abbrev pub invariant-loop-place : goal.invariant-loop-place
invariant-loop-place l =
    let ps = l.self.parts.items in
    (l.place ≤ length ps) × (last_some (part_cr_end l.body) (take l.end ps) ≡ last_some (part_cr_end l.body) (take l.place ps))

abbrev pub decreases-loop-place : goal.decreases-loop-place
decreases-loop-place l = l.place
