use Rattle.std.proofs.Common.{sym, ◌∙◌, arith}
use Rattle.std.proofs.lemmas.Bool.{ne_eqb}
use Rattle.properties_text.proofs.Scanning.{cut-pair, cut-plain}
use Rattle.properties_text.proofs.KeyFronts.{cut-plains}
use Rattle.properties_text.proofs.parse.key_length.Goals as goal
use Rattle.properties_text.proofs.parse.key_length.Goals.{then-byte-eq92, else-byte-eq92}

pub loop-at-init : goal.loop-at-init
loop-at-init c = record {
  within = omega (arith, c.key_front-at.ensures.within);
  cut = cut-plains c.args.text.now c.key_front-at.result c.key_front-at.ensures.within c.key_front-at.ensures.plain;
}

pub loop-at-preserved : goal.loop-at-preserved
loop-at-preserved c =
    let text = c.args.text.now in
    let at = c.loop-at.at in
    let inside = c.loop-at-test.true in
    let held = c.loop-at.invariant.cut in
    elim c.if-byte-eq92.branch [
      | then-byte-eq92 w ↦ rw w.at-is (record { within = omega arith; cut = cut-pair text at inside w.if-byte-eq92.true held })
      | else-byte-eq92 w ↦ rw w.at-is (record {
        within = omega arith;
        cut = cut-plain text at inside (ne_eqb _ _ w.if-byte-eq92.false) (sym c.ends_key.ensures ∙ c.if-ends_key.false) held;
      })
    ]
