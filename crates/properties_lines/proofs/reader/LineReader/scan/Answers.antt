use Rattle.std.proofs.Common.{List, ℕ, subst}
use Rattle.properties_lines.specs.Scanner.{Scans}
use Rattle.properties_lines.specs.LineReader.{LineReading, ScansHeld}
use Rattle.properties_lines.proofs.LineReaders.{reading_of, scans-held}
use Rattle.properties_lines.proofs.TestedBytes.{fits-scan, done-scan, tested-scan}
use Rattle.properties_lines.proofs.reader.LineReader.scan.Goals as goal

pub returns : goal.returns
returns c =
    let s = c.self.inside.scanner in
    let new = c.next.new.self in
    let held = c.self.inside.input.held in
    let error = c.self.inside.error in
    let S : List ℕ → Type 0 = λ v. Scans s v c.args.ended c.next.result new in
    let T : LineReading → Type 0 = λ v. ScansHeld v c.args.ended c.next.result (reading_of new held error) in
    subst T c.self.view_is (scans-held s new held error c.args.ended c.next.result c.self.invariant.1 (subst S c.held.ensures c.next.ensures))

pub invariant_of-self : goal.invariant_of-self
invariant_of-self c =
    let s = c.self.inside.scanner in
    let new = c.next.new.self in
    let held = c.self.inside.input.held in
    let kept = c.self.invariant in
    let S : List ℕ → Type 0 = λ v. Scans s v c.args.ended c.next.result new in
    let scans = subst S c.held.ensures c.next.ensures in (
      fits-scan s new held c.args.ended c.next.result kept.0 scans,
      λ failed. done-scan s new held c.args.ended c.next.result (kept.1 failed) scans,
      tested-scan s new held c.args.ended c.self.inside.well_formed c.next.result kept.0 kept.2 scans,
    )
