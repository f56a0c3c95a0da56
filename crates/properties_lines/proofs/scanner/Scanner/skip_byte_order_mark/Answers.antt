use Rattle.std.proofs.Common.{drop, refl, sym, ◌∙◌}
use Rattle.std.proofs.lemmas.List.{take_rest}
use Rattle.properties_lines.proofs.ScannerFront.{awaits-mark, mark-undecided, mark-decided, skips-mark}
use Rattle.properties_lines.proofs.scanner.Scanner.skip_byte_order_mark.Goals as goal
use Rattle.properties_lines.proofs.scanner.Scanner.skip_byte_order_mark.Goals.{else-not-ended-via-then-not-ended+else-is_undecided, else-not-ended-via-else-not-ended}

pub returns-then-is_undecided : goal.returns-then-is_undecided
returns-then-is_undecided c =
    let s = c.args.self.now in
    let rest = drop s.at c.args.held.now in
    let tells = rw (take_rest c.args.held.now s.at) at c.byte_order_mark-mark.ensures in
    let waits = mark-undecided rest c.byte_order_mark-mark.result tells (sym c.is_undecided.ensures ∙ c.if-is_undecided.true) in
    (c.if-not-ended.true, refl, awaits-mark s c.args.held.now c.requires.live c.requires.mark waits, λ w. let x = c.requires.mark in absurd (cc))

pub returns : goal.returns
returns c =
    let s = c.args.self.now in
    let rest = drop s.at c.args.held.now in
    let tells = rw (take_rest c.args.held.now s.at) at c.byte_order_mark-mark.ensures in
    let took = c.take_byte_order_mark.ensures in
    skips-mark s c.take_byte_order_mark.new.self c.args.held.now c.args.ended c.requires.fits c.requires.mark (λ h. elim c.else-not-ended.branch [
      | else-not-ended-via-then-not-ended+else-is_undecided w ↦ mark-decided rest c.byte_order_mark-mark.result tells (sym w.is_undecided.ensures ∙ w.if-is_undecided.false)
      | else-not-ended-via-else-not-ended w ↦ absurd (cc (h, w.if-not-ended.false))
    ]) took.state took.within took.same
