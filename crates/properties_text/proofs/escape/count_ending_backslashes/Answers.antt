use Rattle.std.proofs.Common.{◌≡◌, ◌-◌, length, ap, ◌∙◌}
use Rattle.std.specs.Str.{chars}
use Rattle.std.proofs.lemmas.Bool.{ne_eqb}
use Rattle.properties_format.specs.Lines.{ending_backslashes}
use Rattle.properties_text.proofs.Texts.Backslashes.{counted_all, counted_stop}
use Rattle.properties_text.proofs.escape.count_ending_backslashes.Goals as goal
use Rattle.properties_text.proofs.escape.count_ending_backslashes.Goals.{then-loop-start-test+else-bytes-start-eq92, else-loop-start-test}

pub returns : goal.returns
returns c =
    let bytes = c.as_bytes-bytes.result.now in
    let u = c.as_bytes-bytes.ensures.utf8 in
    let start = c.loop-start.start in
    let held = c.loop-start.invariant in
    let counted : length bytes - start ≡ ending_backslashes (chars bytes) =
    elim c.loop-start-test.branch [
      | then-loop-start-test+else-bytes-start-eq92 w ↦
          counted_stop bytes start u w.loop-start-test.true held.within (ne_eqb _ _ w.if-bytes-start-eq92.false) held.counted
      | else-loop-start-test w ↦ counted_all bytes start u w.loop-start-test.false held.counted
    ] in
    counted ∙ ap (λ v. ending_backslashes (chars v)) c.as_bytes-bytes.ensures.value
