use Rattle.std.proofs.Common.{◌<◌, ◌≤◌, ◌+◌, length, sym, arith}
use Rattle.byte_blocks.specs.Marks.{clear_front}
use Rattle.properties_lines.proofs.ScannerSearch.{block-before, block-end, long-marks, ascii-then, ascii-else}
use Rattle.properties_lines.proofs.search.search_blocks.Goals as goal
use Rattle.properties_lines.proofs.search.search_blocks.Goals.{then-is_ascii, else-is_ascii, then-is_ascii-2, else-is_ascii-2}

pub returns-in-Some : goal.returns-in-Some
returns-in-Some g c =
    let holds = g.C.ByteClass.holds in
    let bytes = c.args.bytes.now in
    let at = c.loop-at.at in
    let first = c.in-Some.first in
    let before = c.loop-at.invariant in
    let marks = c.marks.ensures in
    let room : at + 16 ≤ length bytes = omega (arith, c.loop-at-test.true, before.within) in
    let small : first < 16 = omega (arith, c.in-Some.ensures.1, long-marks holds bytes c.marks.result at marks room) in
    let le : first ≤ 16 = omega (arith, small) in (
      record {
        within = omega (arith, room, small);
        clear = block-before holds bytes c.marks.result at first marks (omega (arith, c.in-Some.ensures.0)) le before.clear;
        ascii = elim c.if-is_ascii.branch [
          | then-is_ascii w ↦
              ascii-then bytes c.marks-past.result at first c.loop-at.is_ascii c.if-is_ascii.is_ascii w.is_clear_before-is_ascii.result before.ascii w.if-is_ascii.true
              c.marks-past.ensures w.is_clear_before-is_ascii.ensures w.is_ascii-is le room
          | else-is_ascii w ↦ ascii-else bytes at first c.loop-at.is_ascii c.if-is_ascii.is_ascii before.ascii w.if-is_ascii.false w.is_ascii-is
        ];
      },
      omega (arith, room, small),
      block-end holds bytes c.marks.result at first marks (sym c.in-Some.ensures.0) small room,
    )

pub loop-at-preserved : goal.loop-at-preserved
loop-at-preserved g c =
    let holds = g.C.ByteClass.holds in
    let bytes = c.args.bytes.now in
    let at = c.loop-at.at in
    let before = c.loop-at.invariant in
    let marks = c.marks.ensures in
    let room : at + 16 ≤ length bytes = omega (arith, c.loop-at-test.true, before.within) in
    let all : 16 ≤ clear_front c.marks.result = omega (arith, c.in_default.ensures, long-marks holds bytes c.marks.result at marks room) in
    record {
      within = room;
      clear = block-before holds bytes c.marks.result at 16 marks all (omega arith) before.clear;
      ascii = elim c.if-is_ascii-2.branch [
        | then-is_ascii-2 w ↦
            ascii-then bytes c.marks-past.result at 16 c.loop-at.is_ascii c.if-is_ascii-2.is_ascii w.is_clear-is_ascii.result before.ascii w.if-is_ascii-2.true
            c.marks-past.ensures w.is_clear-is_ascii.ensures w.is_ascii-is (omega arith) room
        | else-is_ascii-2 w ↦ ascii-else bytes at 16 c.loop-at.is_ascii c.if-is_ascii-2.is_ascii before.ascii w.if-is_ascii-2.false w.is_ascii-is
      ];
    }
