use Rattle.std.proofs.Common.{◌≡◌, ◌++◌, ◌∙◌, arith, sym, ap, subst, List, ℕ, [], refl}
use Rattle.std.specs.Prelude.{Some, Ok}
use Rattle.std.specs.Str.{chars}
use Rattle.properties_format.specs.Items as entry
use Rattle.properties_format.specs.Items.{ignored}
use Rattle.properties_format.specs.Computed.Items.{outcome_of}
use Rattle.counted_io.specs.Streams.{reader}
use Rattle.properties_format.specs.ItemsToCome.{ReaderState}
use Rattle.properties_lines.specs.LineReader.{lines_left}
use Rattle.properties_lines.specs.LineJoiner.{LineState, LineJoining, numbered_line}
use Rattle.properties_items.specs.BorrowedItems.{found_content, IsFoundIn}
use Rattle.java_properties.specs.PropertiesIter.{AdvancesTo, joined_line, IsSpelt, GivesEntry}
use Rattle.java_properties.specs.Private.GivenItems.{as_text, iteration_of}
use Rattle.properties_items.specs.declared.found.Found.{Found}
use Rattle.java_properties.proofs.Items.{kept-utf8, Passed, passed-start, passed-error, passed-no_item, passed-none, gives-spelt, passed-blank, stopped, ended}
use Rattle.properties_items.proofs.FoundItems.{found-item, plain-blank}
use Rattle.java_properties.proofs.iter.items.ItemReader.advance.Given.{Over}
use Rattle.java_properties.proofs.iter.items.ItemReader.advance.Goals as goal
use Rattle.java_properties.proofs.iter.items.ItemReader.advance.Goals.{After-line-line}

pub loop-number-init : goal.loop-number-init
loop-number-init g c =
    let state = ap (λ v. let w : LineState = v in w.state) c.self.view_is in
    record {
      passed = ([], rw state (passed-start c.args.self.now.state c.args.reader.now));
      left = omega (arith, ap lines_left state);
      error = c.self.invariant;
      same_reader = refl;
    }

-- an item that was found in the line is given,
gives-found : (g : Over) (c : After-line-line g) (item : Found) → (item.line_number ≡ c.in-Some.number) × IsFoundIn c.line-line.result.now item
    → AdvancesTo (reader g.R.Read g.R.CountedRead) (iteration_of c.args.self.now c.args.reader.now) (Some (Ok item))
    (iteration_of (as_text c.next_text.new.self.at) c.next_text.new.reader)
gives-found g c item found =
    let new = c.next_text.new.self.at in
    let is = rw c.line-line.ensures at found in
    let line = numbered_line c.in-Some.number new in
    let content = found_content new.line item.content in
    let spelt = gives-spelt line new.state content c.loop-number.invariant.passed.1 c.in-Some.ensures.joins.0 (found-item new.line item is.1) in
    let R : ℕ → Type 0 = λ n.
    (gives : GivesEntry (reader g.R.Read g.R.CountedRead) c.args.self.now.state c.args.reader.now (entry.item n content) new.state c.next_text.new.reader)
    × IsFoundIn new.line item × IsSpelt c.args.self.now.state gives.bytes (joined_line n new.line) new.state in
    rw (kept-utf8 new.line c.in-Some.ensures.text) (subst R (sym is.0) (spelt.0, is.1, spelt.1))

-- and a blank line is passed
passes-blank : (g : Over) (c : After-line-line g) → outcome_of (chars c.line-line.result.now) ≡ ignored
    → (bytes : List ℕ) × Passed (reader g.R.Read g.R.CountedRead) c.args.self.now.state c.args.reader.now bytes c.next_text.new.self.at.state
    c.next_text.new.reader
passes-blank g c none =
    let next = c.in-Some.ensures.joins.0 in
    let new = c.next_text.new.self.at in
    let blank = ap (λ v. outcome_of (chars v)) (sym c.line-line.ensures) ∙ none in
    (c.loop-number.invariant.passed.0 ++ next.bytes, passed-blank (numbered_line c.in-Some.number new) new.state c.loop-number.invariant.passed.1 next blank)

pub returns-in-Some-find_plain-clause-finds : goal.returns-in-Some-find_plain-clause-finds
returns-in-Some-find_plain-clause-finds g c =
    gives-found g (goal.at.returns-in-Some-find_plain-clause-finds g c).After-line-line c.in-Some-find_plain.item c.in-Some-find_plain.ensures

pub loop-number-preserved-then-not-has_backslash : goal.loop-number-preserved-then-not-has_backslash
loop-number-preserved-then-not-has_backslash g c =
    let none = plain-blank c.line-line.result.now c.in-Some.number c.find_plain.result c.find_plain.ensures c.in_default-find_plain.not-Some in
    record {
      passed = passes-blank g (goal.at.loop-number-preserved-then-not-has_backslash g c).After-line-line none;
      left = omega (arith, c.loop-number.invariant.left, c.in-Some.ensures.nearer);
      error = c.in-Some.ensures.joins.2;
      same_reader = c.next_text.ensures.same_reader ∙ c.loop-number.invariant.same_reader;
    }

pub returns-in-Ok-Some-clause-finds : goal.returns-in-Ok-Some-clause-finds
returns-in-Ok-Some-clause-finds g c =
    gives-found g (goal.at.returns-in-Ok-Some-clause-finds g c).After-line-line c.in-Ok-Some.item (rw c.in-Ok-Some.field-0-is at c.in-Ok-Some.ensures)

pub loop-number-preserved : goal.loop-number-preserved
loop-number-preserved g c = record {
  passed = passes-blank g (goal.at.loop-number-preserved g c).After-line-line (rw c.in-Ok-None.field-0-is at c.in-Ok-None.ensures);
  left = omega (arith, c.loop-number.invariant.left, c.in-Some.ensures.nearer);
  error = c.in-Some.ensures.joins.2;
  same_reader = c.next_text.ensures.same_reader ∙ c.loop-number.invariant.same_reader;
}

pub returns-in-Err-clause-finds : goal.returns-in-Err-clause-finds
returns-in-Err-clause-finds g c =
    let next = c.in-Some.ensures.joins.0 in
    let none = rw c.line-line.ensures at (c.in-Err.ensures c.in-Some.number c.unresolved.result c.unresolved.ensures) in
    let done = ap (λ v. let w : LineJoining = v in w.at.state.is_done) c.end.ensures in
    let k = passed-no_item (numbered_line c.in-Some.number c.next_text.new.self.at) c.next_text.new.self.at.state c.loop-number.invariant.passed.1 next none in
    (k.0, done, k.1)

pub returns-in_err-error-clause-finds : goal.returns-in_err-error-clause-finds
returns-in_err-error-clause-finds g c =
    let end = ended c.in_default.ensures.joins (sym c.finish.ensures.error ∙ sym c.err.ensures.value ∙ c.in_err-error.was) in
    let S : LineJoining → ReaderState = λ v. v.at.state in
    rw c.from_residual.ensures (passed-none c.loop-number.invariant.passed.1 end.0 (ap S c.finish.ensures.taken ∙ ap S end.1) end.2)

pub returns-clause-finds : goal.returns-clause-finds
returns-clause-finds g c =
    let kept = sym c.finish.ensures.error ∙ sym c.err.ensures.value ∙ c.in_ok-error.was in
    let stop = stopped c.in_default.ensures.joins c.loop-number.invariant.error kept in
    let done = ap (λ v. let w : LineJoining = v in w.at.state.is_done) c.finish.ensures.taken ∙ stop.1 in
    let p = passed-error c.loop-number.invariant.passed.1 stop.0 stop.2 c.from.ensures in
    (p.0, done, p.1)

pub returns-clause-nearer : goal.returns-clause-nearer
returns-clause-nearer g c = grind (arith, stopped)
