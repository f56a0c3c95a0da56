use Rattle.std.proofs.Common.{arith, inr}
use Rattle.properties_editing.proofs.Editing.{editable-bytes}
use Rattle.std.proofs.lemmas.List.{take_rest}
use Rattle.properties_text.specs.Encoding.{encoding_of}
use Rattle.properties_editing.proofs.BodyCuts.{IsPassed, passed-ascii, passed-more, passed-all}
use Rattle.properties_editing.proofs.cuts.pass_characters.Goals as goal
use Rattle.properties_editing.proofs.cuts.pass_characters.Goals.{Then-is_ascii}

-- as many bytes as characters are wanted are ASCII, or all
came : (c : Then-is_ascii) → IsPassed (encoding_of c.args.encoding) c.args.bytes.now c.args.wanted c.min-front.result c.min-front.result
came c =
    passed-ascii (encoding_of c.args.encoding) c.args.bytes.now c.args.wanted c.min-front.result (editable-bytes _ c.requires)
    (omega (arith, c.min-front.ensures))
    (c.is_ascii.ensures.0 c.if-is_ascii.true)

pub returns-then-is_ascii-clause-count : goal.returns-then-is_ascii-clause-count
returns-then-is_ascii-clause-count c = (came (goal.at.returns-then-is_ascii-clause-count c).Then-is_ascii).counts

pub returns-then-is_ascii-clause-size : goal.returns-then-is_ascii-clause-size
returns-then-is_ascii-clause-size c = (came (goal.at.returns-then-is_ascii-clause-size c).Then-is_ascii).sizes

pub loop-count-preserved : goal.loop-count-preserved
loop-count-preserved c =
    let e = encoding_of c.args.encoding in
    let d = c.args.bytes.now in
    let shown = rw take_rest at c.first_piece-size.ensures in
    passed-more e d c.args.wanted c.loop-count.count c.loop-count.size c.first_piece-size.result c.loop-count.invariant c.loop-count-test.true
    c.if-size-bytes.true shown.shown shown.within

pub returns-else-size-bytes-clause-count : goal.returns-else-size-bytes-clause-count
returns-else-size-bytes-clause-count c =
    (passed-all _ _ _ _ _ c.loop-count.invariant (inr (omega arith))).counts

pub returns-else-size-bytes-clause-size : goal.returns-else-size-bytes-clause-size
returns-else-size-bytes-clause-size c =
    (passed-all _ _ _ _ _ c.loop-count.invariant (inr (omega arith))).sizes
