use Rattle.std.proofs.Common.{refl, subst}
use Rattle.properties_editing.specs.Private.BodyViews.{ArePartsOfLine}
use Rattle.properties_editing.proofs.BodyViews.{walk-taken, walk-ended}
use Rattle.properties_editing.proofs.walk.Walk.next.Goals as goal

pub returns-then-place-self : goal.returns-then-place-self
returns-then-place-self c =
    let all = rw (c.place.ensures, c.state-before.ensures) at c.if-place-self.true in
    (walk-ended c.args.self.now c.requires all, record { source_is = refl; state = refl })

pub returns-in-Ok-Some : goal.returns-in-Ok-Some
returns-in-Ok-Some c =
    let takes = rw c.in-Ok-Some.field-0-is at c.in-Ok-Some.ensures in
    let more = rw (c.place.ensures, c.state-before.ensures) at c.if-place-self.false in
    walk-taken c.args.self.now c.next.new.self c.state-before.result _ c.requires more c.state-before.ensures takes
    (subst (λ line. ArePartsOfLine line c.parts_of-parts.result) c.line.ensures c.parts_of-parts.ensures) c.place-in-Ok-Some.ensures
