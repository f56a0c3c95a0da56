use Rattle.std.proofs.Common.{◌-◌, ◌++◌, ◌∷◌, [], take, drop, subst, sym, ◌∙◌, append_assoc}
use Rattle.properties_format.specs.Text.{line_feed}
use Rattle.properties_editing.specs.Private.PartEndings.{IsEndingIn}
use Rattle.properties_editing.proofs.LastPairs.{at-byte}
use Rattle.properties_editing.proofs.PartEndings.{ending-before}
use Rattle.properties_editing.proofs.parts.endings.last_ending_in.Goals as goal

pub returns-in-10 : goal.returns-in-10
returns-in-10 c =
    let bytes = c.args.bytes.now in
    let inv = c.loop-end.invariant in
    let end = c.loop-end.end in
    let front = take (end - 1) bytes in
    let found = c.line_feed_after.result in
    let whole = at-byte bytes end line_feed c.loop-end-test.true inv.within c.in-10.is ∙ sym (append_assoc front (line_feed ∷ []) (drop end bytes)) in
    subst (λ v. IsEndingIn v found) (sym whole)
    (ending-before (front ++ line_feed ∷ []) (drop end bytes) found inv.plain c.line_feed_after.ensures)
