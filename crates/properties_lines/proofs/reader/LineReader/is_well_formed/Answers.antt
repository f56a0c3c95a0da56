use Rattle.std.proofs.Common.{◌∙◌, leb, arith, sym, ap, subst}
use Rattle.std.proofs.lemmas.Bool.{leb-false}
use Rattle.properties_lines.specs.LineReader.{LineReading}
use Rattle.properties_lines.specs.LogicalLine.{TellsLine}
use Rattle.properties_lines.specs.declared.scanner.RawLine.{RawLine}
use Rattle.properties_lines.proofs.TestedBytes.{ascii-line, some-byte, known-text}
use Rattle.properties_lines.proofs.reader.LineReader.is_well_formed.Goals as goal

pub returns-then-is_ascii-clause-tells : goal.returns-then-is_ascii-clause-tells
returns-then-is_ascii-clause-tells c =
    let now = c.args.self.now in
    let ascii = (c.requires.flags 0 0).ascii.0 (sym c.if-is_ascii.ensures) in
    ascii-line now.state.encoding now.line ascii.0 ascii.1

pub test-requires-clause-some : goal.test-requires-clause-some
test-requires-clause-some c = some-byte c.args.self.now c.requires.flags (sym c.in-UTF_8.ensures) (sym c.if-is_ascii.ensures)

pub returns-then-line-self-clause-tells : goal.returns-then-line-self-clause-tells
returns-then-line-self-clause-tells c =
    let s = c.self.inside.scanner in
    let held = c.self.inside.input.held in
    let decided = ap (λ v. let w : LineReading = v in w.state.is_decided) c.self.view_is ∙ c.requires.decided in
    let encoding = ap (λ v. let w : LineReading = v in w.state.encoding) c.self.view_is ∙ sym c.in-UTF_8.ensures in
    let w = c.self.inside.well_formed in
    let is = ap (λ v. let x : RawLine = v in x.end) c.line.ensures in
    let told = known-text s held w c.args.self.now.state.encoding (leb c.line.result.now.end w) c.self.invariant.2 decided encoding (sym c.in-UTF_8.ensures)
    (omega (arith, is, c.if-line-self.true)) (λ h. absurd (omega (arith, c.if-line-self.true, leb-false c.line.result.now.end w h))) in
    subst (λ v. TellsLine c.args.self.now.state.encoding v (leb c.line.result.now.end w)) (ap (λ v. let x : LineReading = v in x.line) c.self.view_is) told
