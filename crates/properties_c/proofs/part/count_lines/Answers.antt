use Rattle.std.proofs.Common.{ap, sym, length, arith}
use Rattle.std.proofs.lemmas.List.{take_rest}
use Rattle.properties_format.specs.Encoding.{InForce}
use Rattle.properties_text.specs.Encoding.{encoding_of}
use Rattle.properties_lines.specs.declared.scanner.Scanner.{Scanner}
use Rattle.properties_lines.proofs.HeldLines.{body-lines_left}
use Rattle.properties_c.proofs.PartedLines.{count-start, count-next, count-end}
use Rattle.properties_c.proofs.part.count_lines.Goals as goal

pub loop-scanner-init : goal.loop-scanner-init
loop-scanner-init c =
    let source = c.args.source.now in
    let in_force = c.encoding_in_force-in_force in
    let at = c.in_body-scanner.ensures in
    rw (take_rest source in_force.result.1) (count-start (encoding_of c.args.encoding) source _ c.in_body-scanner.result in_force.result.0
    in_force.ensures.in_force at.encoding (at.fits _) at.place (at.state _))

pub loop-scanner-smaller : goal.loop-scanner-smaller
loop-scanner-smaller c =
    let h = c.loop-scanner.invariant in
    omega (arith, ap length (body-lines_left c.loop-scanner.scanner c.next.new.self _ h.scanning.in_body c.in-Line.ensures))

pub loop-scanner-preserved : goal.loop-scanner-preserved
loop-scanner-preserved c = count-next c.loop-scanner.scanner c.next.new.self c.loop-scanner.invariant c.in-Line.ensures

pub overflow_sub-result : goal.overflow_sub-result
overflow_sub-result c =
    let source = c.args.source.now in
    let in_force = c.encoding_in_force-in_force in
    let h = rw (take_rest source in_force.result.1) at c.loop-scanner.invariant in
    let all = count-end (encoding_of c.args.encoding) _ source _ c.loop-scanner.scanner in_force.ensures.in_force h c.in-End.ensures.0 in
    let same = ap (λ v. let w : Scanner = v in w.passed) c.in-End.ensures.1 in
    omega (arith, all, same, c.number.ensures)

pub returns-in-End : goal.returns-in-End
returns-in-End c =
    let source = c.args.source.now in
    let in_force = c.encoding_in_force-in_force in
    let h = rw (take_rest source in_force.result.1) at c.loop-scanner.invariant in
    let all = count-end (encoding_of c.args.encoding) _ source _ c.loop-scanner.scanner in_force.ensures.in_force h c.in-End.ensures.0 in
    let same = ap (λ v. let w : Scanner = v in w.passed) c.in-End.ensures.1 in
    (sym (ap (λ v. let w : InForce = v in w.encoding) in_force.ensures.in_force), omega (arith, all, same, c.number.ensures))
