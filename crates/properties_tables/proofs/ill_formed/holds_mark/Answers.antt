use Rattle.std.proofs.{Common.◌∙◌, Common.drop, Common.sym, lemmas.List.take_rest}
use Rattle.properties_tables.proofs.Marks.{mark-from, mark-here, mark-next, mark-nowhere}
use Rattle.properties_tables.proofs.ill_formed.holds_mark.Goals as goal

pub returns-then-has_byte_order_mark : goal.returns-then-has_byte_order_mark
returns-then-has_byte_order_mark c =
    let rest = c.loop-at.rest.now in
    let at = c.in-Some.at in
    let here = rw (take_rest rest at) at (sym c.has_byte_order_mark.ensures ∙ c.if-has_byte_order_mark.true) in
    sym (c.loop-at.invariant ∙ mark-from rest at c.in-Some.ensures ∙ mark-here (drop at rest) here)

pub loop-at-preserved : goal.loop-at-preserved
loop-at-preserved c =
    let rest = c.loop-at.rest.now in
    let at = c.in-Some.at in
    let none = rw (take_rest rest at) at (sym c.has_byte_order_mark.ensures ∙ c.if-has_byte_order_mark.false) in
    rw (take_rest rest at, take_rest (drop at rest) 1) (c.loop-at.invariant ∙ mark-from rest at c.in-Some.ensures ∙ mark-next (drop at rest) none)

pub returns : goal.returns
returns c = sym (c.loop-at.invariant ∙ mark-nowhere c.loop-at.rest.now c.in_default.ensures)
