use Rattle.std.proofs.Common.{◌≡◌, ◌<◌, ◌≤◌, ◌+◌, ◌∙◌, true, leb, length, ap, subst, arith}
use Rattle.std.proofs.lemmas.Bool.{leb-true, leb-false}
use Rattle.properties_format.specs.Encoding.{utf_8}
use Rattle.properties_text.specs.Encoding.{encoding_of}
use Rattle.properties_lines.specs.Scanner.{is_decided}
use Rattle.properties_lines.specs.LineReader.{LineReading}
use Rattle.properties_lines.specs.LogicalLine.{TellsLine}
use Rattle.properties_lines.specs.declared.scanner.RawLine.{RawLine}
use Rattle.properties_lines.proofs.TestedBytes.{between-length, tested-now, tells-text}
use Rattle.properties_lines.proofs.reader.LineReader.test.Goals as goal
use Rattle.properties_lines.proofs.reader.LineReader.test.Goals.{After-well_formed_length}

decided : (c : After-well_formed_length) → is_decided c.self.inside.scanner.front ≡ true
decided c = ap (λ v. let w : LineReading = v in w.state.is_decided) c.self.view_is ∙ c.requires.decided

utf_8-in : (c : After-well_formed_length) → encoding_of c.self.inside.scanner.encoding ≡ utf_8
utf_8-in c = ap (λ v. let w : LineReading = v in w.state.encoding) c.self.view_is ∙ c.requires.encoding

some : (c : After-well_formed_length) → c.self.inside.scanner.line.start < c.self.inside.scanner.line.end
some c =
    let line = c.self.inside.scanner.line in
    let held = c.self.inside.input.held in
    let long = c.self.invariant.0.line.1 in
    let same = ap (λ v. let w : LineReading = v in length w.line) c.self.view_is in
    omega (arith, c.requires.some, same, between-length line.start line.end held long)

within : (c : After-well_formed_length) → c.min-end.result ≤ length c.self.inside.input.held
within c = omega (arith, c.min-end.ensures, ap length c.held-held.ensures)

reaches : (c : After-well_formed_length) → c.self.inside.scanner.line.end ≤ c.min-end.result
reaches c =
    let end = ap (λ v. let w : RawLine = v in w.end) c.line-line.ensures in
    omega (arith, c.min-end.ensures, c.max.ensures, ap length c.held-held.ensures, end, c.self.invariant.0.line.1)

pub invariant_of-self : goal.invariant_of-self
invariant_of-self c =
    let s = c.self.inside.scanner in
    let held = c.self.inside.input.held in
    let kept = c.self.invariant in
    let n = c.well_formed_length.result in
    let found = rw (c.line-line.ensures, c.held-held.ensures) at c.well_formed_length.ensures in
    let now = tested-now s held c.self.inside.well_formed c.min-end.result n kept.2 (decided c) (utf_8-in c) (some c) kept.0.line.1 (within c) (reaches c) found in
    (kept.0, kept.1, rw c.line-line.ensures now)

pub returns-clause-tells : goal.returns-clause-tells
returns-clause-tells c =
    let s = c.self.inside.scanner in
    let held = c.self.inside.input.held in
    let kept = c.self.invariant in
    let n = c.well_formed_length.result in
    let found = rw (c.line-line.ensures, c.held-held.ensures) at c.well_formed_length.ensures in
    let told = tells-text s held c.self.inside.well_formed c.min-end.result n kept.2 (decided c) (utf_8-in c) (some c) kept.0.line.1 (within c) (reaches c) found
    (leb s.line.end (s.line.start + n)) (leb-true s.line.end (s.line.start + n)) (leb-false s.line.end (s.line.start + n)) in
    rw c.line-line.ensures (subst (λ v. TellsLine utf_8 v (leb s.line.end (s.line.start + n))) (ap (λ v. let w : LineReading = v in w.line) c.self.view_is) told)
