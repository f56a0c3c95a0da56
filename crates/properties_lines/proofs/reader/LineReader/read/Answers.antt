use Rattle.std.proofs.Common.{inr, ◌≡◌, ◌≢◌, ◌≤◌, ◌+◌, ◌-◌, ◌∙◌, ℕ, true, List, [], ◌++◌, drop, append-nil, sym, subst, ap, arith}
use Rattle.std.specs.Prelude.{Option, None}
use Rattle.properties_lines.specs.LineReader.{LineReading}
use Rattle.properties_lines.specs.Scanner.{Fits}
use Rattle.properties_lines.specs.Private.InputBuffer.{IsTested}
use Rattle.properties_lines.specs.declared.error.LineError.{LineError}
use Rattle.properties_lines.specs.declared.error.LineError.TheVariants as why
use Rattle.properties_lines.specs.declared.scanner.Scanner.{Scanner}
use Rattle.properties_lines.proofs.LineReaders.{reading_of, fits-left, fits-filled, done-left, passed-left, line-left, fails}
use Rattle.properties_lines.proofs.ScannerFront.{release}
use Rattle.properties_lines.proofs.TestedBytes.{tested-left, tested-filled, released-empty}
use Rattle.properties_lines.proofs.reader.LineReader.read.Goals as goal

-- The invariant after bytes were released and others were added.
kept : (s new : Scanner) (before held after more : List ℕ) (gone w n : ℕ) (error : Option LineError)
    → Fits s before × (error ≢ None → s.is_done ≡ true) × IsTested s before w → gone ≤ s.at → new ≡ release s gone → held ≡ drop gone before → after ≡ held ++ more
    → n ≡ w - gone → Fits new after × (error ≢ None → new.is_done ≡ true) × IsTested new after n
kept s new before held after more gone w n error k most is left added same =
    let fits = fits-left s new before held gone k.0 most is left in
    let tested = tested-left s new before held gone w k.2 most is left in (
      fits-filled new held after more fits added,
      done-left s new gone error k.1 is,
      subst (IsTested new after) (sym same) (tested-filled new held after more (w - gone) tested fits.within (released-empty s new gone is) added),
    )

pub invariant_of-self-in-Ok-eq0 : goal.invariant_of-self-in-Ok-eq0
invariant_of-self-in-Ok-eq0 g c =
    let most : c.in-Ok.gone ≤ c.self.inside.scanner.at = omega (arith, c.in-Ok.ensures.most, c.place.ensures) in
    kept c.self.inside.scanner c.release.new.self c.self.inside.input.held c.make_room.new.self.held c.fill.new.self.held c.in-Ok-eq0.ensures.fills.bytes
    c.in-Ok.gone c.self.inside.well_formed _ c.self.inside.error c.self.invariant most c.release.ensures c.in-Ok.ensures.held c.in-Ok-eq0.ensures.fills.added
    c.saturating_sub-self-inside.ensures

pub invariant_of-self-in-Ok-fill : goal.invariant_of-self-in-Ok-fill
invariant_of-self-in-Ok-fill g c =
    let most : c.in-Ok.gone ≤ c.self.inside.scanner.at = omega (arith, c.in-Ok.ensures.most, c.place.ensures) in
    kept c.self.inside.scanner c.release.new.self c.self.inside.input.held c.make_room.new.self.held c.fill.new.self.held c.in-Ok-fill.ensures.fills.bytes
    c.in-Ok.gone c.self.inside.well_formed _ c.self.inside.error c.self.invariant most c.release.ensures c.in-Ok.ensures.held c.in-Ok-fill.ensures.fills.added
    c.saturating_sub-self-inside.ensures

pub invariant_of-self-in-Err : goal.invariant_of-self-in-Err
invariant_of-self-in-Err g c =
    let most : c.in-Ok.gone ≤ c.self.inside.scanner.at = omega (arith, c.in-Ok.ensures.most, c.place.ensures) in
    kept c.self.inside.scanner c.release.new.self c.self.inside.input.held c.make_room.new.self.held c.fill.new.self.held []
    c.in-Ok.gone c.self.inside.well_formed _ c.self.inside.error c.self.invariant most c.release.ensures c.in-Ok.ensures.held
    (c.in-Err.ensures.fills.0 ∙ sym (append-nil c.make_room.new.self.held)) c.saturating_sub-self-inside.ensures

pub returns-in-Err-clause-reads : goal.returns-in-Err-clause-reads
returns-in-Err-clause-reads g c =
    let s = c.self.inside.scanner in
    let new = c.release.new.self in
    let gone = c.in-Ok.gone in
    let held = c.fill.new.self.held in
    let old = c.args.self.now in
    let e = why.Io (c.number-number.result + 1) c.in-Err.error in
    let here = ap (λ v. let x : LineReading = v in x.state.passed) c.self.view_is in
    let number : c.number-number.result + 1 ≡ old.state.passed + 1 = omega (arith, c.number-number.ensures, passed-left s new gone c.release.ensures, here) in
    let failed = fails old (reading_of new held c.self.inside.error) c.fail-in-Err.new.self e c.fail-in-Err.ensures (inr (line-left s new held gone c.release.ensures)) in
    (e, (number, c.in-Err.ensures.fills.1), failed)
