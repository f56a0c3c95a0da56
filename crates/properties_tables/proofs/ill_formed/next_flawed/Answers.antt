use Rattle.std.proofs.Common.{◌≡◌, ◌∷◌, true, false, length, sym, ap, ◌∙◌, arith}
use Rattle.properties_text.specs.Encoding.{encoding_of}
use Rattle.properties_lines.specs.Scanner.{raw_line_bytes}
use Rattle.properties_lines.proofs.HeldLines.{body-lines_left}
use Rattle.properties_tables.specs.Private.Flawed.{is_flawed, numbers_left}
use Rattle.properties_tables.proofs.FlawedLines.{found-scanning, found-numbers}
use Rattle.properties_tables.proofs.ill_formed.next_flawed.Goals as goal

pub returns-then-has_flaw : goal.returns-then-has_flaw
returns-then-has_flaw c =
    let flaw = c.args.flaw in
    let body = c.args.body.now in
    let s = c.loop-scanner.scanner in
    let new = c.next.new.self in
    let h = c.loop-scanner.invariant in
    let g = c.in-Line.ensures in
    let k : is_flawed flaw (encoding_of new.encoding) (raw_line_bytes body new.line) ≡ true = (
    let encoding = c.encoding.ensures in let line = c.line.ensures in let flawed = c.has_flaw.ensures in let test = c.if-has_flaw.true in cc) in (
      found-scanning body s new h.scanning g,
      h.same ∙ found-numbers flaw body s new true h.scanning g k ∙ ap (λ n. n ∷ numbers_left flaw body new) (sym c.number.ensures),
    )

pub loop-scanner-smaller : goal.loop-scanner-smaller
loop-scanner-smaller c =
    let scanning = c.loop-scanner.invariant.scanning in
    omega (arith, ap length (body-lines_left c.loop-scanner.scanner c.next.new.self c.args.body.now scanning.in_body c.in-Line.ensures))

pub loop-scanner-preserved : goal.loop-scanner-preserved
loop-scanner-preserved c =
    let flaw = c.args.flaw in
    let body = c.args.body.now in
    let s = c.loop-scanner.scanner in
    let new = c.next.new.self in
    let h = c.loop-scanner.invariant in
    let g = c.in-Line.ensures in
    let k : is_flawed flaw (encoding_of new.encoding) (raw_line_bytes body new.line) ≡ false = (
    let encoding = c.encoding.ensures in let line = c.line.ensures in let flawed = c.has_flaw.ensures in let test = c.if-has_flaw.false in cc) in
    record { scanning = found-scanning body s new h.scanning g; same = h.same ∙ found-numbers flaw body s new false h.scanning g k }
