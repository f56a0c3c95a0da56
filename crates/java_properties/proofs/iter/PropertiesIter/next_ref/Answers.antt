use Rattle.std.proofs.Common.{◌≡◌}
use Rattle.java_properties.proofs.iter.PropertiesIter.next_ref.Goals as goal

pub returns-in_err-found : goal.returns-in_err-found
returns-in_err-found g c = rw c.from_residual.ensures (c.advance.new.self, c.in_err-found.ensures.gives.0, c.in_err-found.ensures.gives.1)

pub returns-in-Ok : goal.returns-in-Ok
returns-in-Ok g c =
    let new = c.advance.new.self in
    let line = c.get.result in
    let gave = rw c.in-Ok.is at c.in_ok-found.ensures.gives in
    let number : c.in-Ok.found.line_number ≡ line.line_number = let same = c.get.ensures.item in cc in
    (new, rw c.get.ensures.item (gave.0.0, c.get.ensures.borrowed, rw (← number) gave.0.2), gave.1)

pub returns-in-Err : goal.returns-in-Err
returns-in-Err g c =
    let gave = rw c.in-Err.is at c.in_ok-found.ensures.gives in
    (c.advance.new.self, gave.0, gave.1)
