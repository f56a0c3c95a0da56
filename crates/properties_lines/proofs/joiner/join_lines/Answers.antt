use Rattle.std.proofs.Common.{◌∙◌, refl, sym, subst, arith}
use Rattle.properties_lines.specs.LogicalLine.{IsUnfinishedLine, unfinished_text}
use Rattle.properties_lines.proofs.LineJoiner.{goes-start, goes-more, joins-closed, joins-over, joins-lost}
use Rattle.properties_lines.proofs.joiner.join_lines.Goals as goal

pub loop-lines-init : goal.loop-lines-init
loop-lines-init g c = record {
  along = goes-start c.args.lines.now.state c.args.reader.now (unfinished_text c.args.line.now);
  error = c.requires.error;
  unfinished = c.requires.unfinished;
  left = omega arith;
  same_reader = refl;
}

pub loop-lines-preserved : goal.loop-lines-preserved
loop-lines-preserved g c =
    let tested = c.is_well_formed-is_line.ensures.same in
    let found = c.loop-lines-test.ensures.finds in
    let next = found.0 in
    let along = c.loop-lines.invariant.along in
    let added = rw (c.encoding.ensures, c.line.ensures, tested) at c.in-Ok-true.ensures.adds in
    let kept = along.encoding c.requires.decided in
    rw tested (record {
      along = goes-more c.find_line.new.self.state.passed c.find_line.new.self along next (sym added.0 ∙ c.in-Ok-true.field-0-test) added.1;
      error = found.2;
      unfinished = subst (λ v. IsUnfinishedLine v c.join.new.self) ((next.encoding kept.0).1 ∙ kept.1) added.2;
      left = omega (arith, c.loop-lines.invariant.left, c.find_line.ensures.nearer c.loop-lines-test.true);
      same_reader = c.find_line.ensures.same_reader ∙ c.loop-lines.invariant.same_reader;
    })

pub returns-in-Ok-false-clause-joins : goal.returns-in-Ok-false-clause-joins
returns-in-Ok-false-clause-joins g c =
    let tested = c.is_well_formed-is_line.ensures.same in
    let found = c.loop-lines-test.ensures.finds in
    let added = rw (c.encoding.ensures, c.line.ensures, tested) at c.in-Ok-false.ensures.adds in
    rw tested (
      joins-closed c.find_line.new.self.state.passed c.find_line.new.self c.loop-lines.invariant.along
          found.0 (sym added.0 ∙ c.in-Ok-false.field-0-test) added.1,
      found.2,
    )

pub returns-in-Err-clause-joins : goal.returns-in-Err-clause-joins
returns-in-Err-clause-joins g c =
    let tested = c.is_well_formed-is_line.ensures.same in
    joins-lost c.args.lines.now c.loop-lines.lines c.find_line.new.self c.fail.new.self c.loop-lines.invariant.along c.loop-lines-test.ensures.finds.0
    (rw tested at c.fail.ensures)

pub returns-clause-joins : goal.returns-clause-joins
returns-clause-joins g c =
    joins-over c.args.lines.now c.loop-lines.lines c.find_line.new.self c.has_failed.result c.loop-lines.invariant.along c.loop-lines.invariant.error
    c.loop-lines-test.ensures.finds c.has_failed.ensures
