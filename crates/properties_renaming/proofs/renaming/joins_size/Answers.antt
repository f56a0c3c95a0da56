use Rattle.std.proofs.Common.{◌∙◌, ◌≡◌, ap, arith, drop, sym, true}
use Rattle.std.proofs.lemmas.List.{take_rest}
use Rattle.properties_renaming.specs.Private.Renaming.{is_join}
use Rattle.properties_renaming.proofs.RenamedKeys.{join-more}
use Rattle.properties_renaming.proofs.renaming.joins_size.Goals as goal

pub loop-at-preserved : goal.loop-at-preserved
loop-at-preserved c =
    let h : is_join (drop c.loop-at.at c.args.bytes.now) ≡ true =
    ap is_join (sym (take_rest c.args.bytes.now c.loop-at.at)) ∙ sym c.is_join.ensures ∙ c.loop-at-test.true in
    let more = join-more c.args.bytes.now c.loop-at.at h in
    let within = more.1 in
    record { within = omega arith; rest = more.0 ∙ c.loop-at.invariant.rest }
