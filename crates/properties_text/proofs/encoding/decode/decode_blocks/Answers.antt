use Rattle.std.proofs.Common.{◌∙◌, ◌≤◌, ◌+◌, ◌-◌, ◌%◌, length, arith}
use Rattle.std.proofs.lemmas.List.{length-drop, take_rest}
use Rattle.properties_text.proofs.Latin1.{not-in_table, decoded-front}
use Rattle.properties_text.proofs.encoding.decode.decode_blocks.Goals as goal

pub loop-rest-preserved-then-is_clear_before : goal.loop-rest-preserved-then-is_clear_before
loop-rest-preserved-then-is_clear_before c =
    let held = c.loop-rest.invariant in
    let put = c.put_latin_1-at.ensures in
    let bytes = c.loop-rest.rest.now in
    let block_size = (length bytes - 1) % 16 + 1 in
    let few : block_size ≤ 16 = omega arith in
    let untabled = not-in_table bytes c.tabled.result block_size c.tabled.ensures few (c.is_clear_before.ensures.0 c.if-is_clear_before.true) in
    let front = decoded-front _ _ bytes _ block_size held.is_text put.scalars c.loop-rest-test.true few untabled put.text held.text in
    record {
      same_room = put.same_room ∙ held.same_room;
      within = omega (arith, put.within, put.same_room, c.if-run-at-ge64.true);
      onwards = omega (arith, held.onwards, put.after);
      left = rw (take_rest, length-drop block_size bytes) (omega (arith, held.left));
      shorter = rw (take_rest, length-drop block_size bytes) (omega (arith, put.within, held.shorter, c.loop-rest-test.true));
      is_text = front.0;
      text = rw take_rest front.1;
    }
