use Rattle.std.proofs.Common.{◌∙◌, ◌++◌, ◌-◌, ℕ, List, [], ap, append-nil, drop, length, refl, sym, take, arith}
use Rattle.std.proofs.lemmas.List.{take_rest}
use Rattle.properties_text.specs.Encoding.{encoding_of}
use Rattle.properties_lines.proofs.HeldLines.{body-lines_left, body-next}
use Rattle.properties_tables.proofs.FlawedLines.{scans}
use Rattle.properties_checking.proofs.OpenLines.{ends-done, ends-of, ends-start, ends-step}
use Rattle.properties_checking.proofs.open_lines.push_ends.Goals as goal

pub returns-then-not-may_hold_ends : goal.returns-then-not-may_hold_ends
returns-then-not-may_hold_ends c =
    let source = c.args.source.now in
    let found = c.encoding_in_force-in_force in
    let none = rw (c.if-not-may_hold_ends.true, take_rest source found.result.1) at c.may_hold_ends.ensures in
    ([], ends-of (encoding_of c.args.encoding) source (encoding_of found.result.0) _ [] found.ensures.in_force none, sym (append-nil _))

pub loop-number-init : goal.loop-number-init
loop-number-init c =
    let source = c.args.source.now in
    let found = c.encoding_in_force-in_force in
    let at = c.in_body-scanner.ensures in
    let s = c.in_body-scanner.result in
    let body : List ℕ = take (length source - found.result.1) (drop found.result.1 source) in
    record {
      scanning = scans body s found.result.0 at.encoding (at.fits body) at.place (at.state body);
      encoding = ap encoding_of at.encoding;
      all = ap (λ v. c.args.findings.now.items ++ v) (ends-start body s found.result.0 at.place (at.state body));
    }

pub next_line-requires : goal.next_line-requires
next_line-requires c = c.loop-number.invariant.scanning

pub loop-number-smaller : goal.loop-number-smaller
loop-number-smaller c =
    let source = c.args.source.now in
    let start = c.encoding_in_force-in_force.result.1 in
    let body : List ℕ = take (length source - start) (drop start source) in
    let h = c.loop-number.invariant in
    let left = body-lines_left c.loop-number.scanner c.next_line.new.scanner body h.scanning.in_body c.in-Some.ensures.gives in
    omega (arith, ap length left)

pub loop-number-preserved : goal.loop-number-preserved
loop-number-preserved c =
    let source = c.args.source.now in
    let start = c.encoding_in_force-in_force.result.1 in
    let body : List ℕ = take (length source - start) (drop start source) in
    let h = c.loop-number.invariant in
    let s = c.loop-number.scanner in
    let new = c.next_line.new.scanner in
    let found = c.in-Some.ensures in
    let said = rw (c.place.ensures, c.line-line.ensures) at c.said_end-misread.ensures.said in
    let joins = rw c.line-line.ensures at c.said_end-misread.ensures.joins in
    record {
      scanning = found.scanning;
      encoding = (body-next s new body h.scanning.in_body found.gives).0 ∙ h.encoding;
      all =
          ends-step body s new c.loop-number.is_joined _ c.loop-number.findings.items c.push_misread.new.findings.items c.in-Some.number _ _ _ h.scanning
          found.gives h.encoding found.is said joins c.in_ok-push_misread.ensures h.all;
    }

pub returns : goal.returns
returns c =
    let source = c.args.source.now in
    let found = c.encoding_in_force-in_force in
    let before =
    ends-done c.loop-number.is_joined _ c.loop-number.scanner c.loop-number.findings.items _ c.in_default.ensures c.loop-number.invariant.all in
    let all = rw (take_rest source found.result.1) at before in
    (_, ends-of (encoding_of c.args.encoding) source (encoding_of found.result.0) _ _ found.ensures.in_force refl, all)
