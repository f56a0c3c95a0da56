use Rattle.std.proofs.Common.{◌∙◌, [], ◌∷◌, ◌++◌, ap}
use Rattle.properties_format.specs.Text.{line_feed}
use Rattle.properties_c.proofs.KeyComments.{text-more}
use Rattle.properties_c.proofs.keys.lines_of.Goals as goal

pub loop-text-preserved : goal.loop-text-preserved
loop-text-preserved c =
    let lines = c.loop-text.lines.items in
    let more = c.in_ok-push_text.ensures ∙ ap (λ b. lines ++ (b ++ line_feed ∷ [])) c.as_str.ensures.value in
    text-more c.args.texts.now c.loop-text.text-index _ c.text-item.result lines _ _ c.loop-text-test.true c.text-item.is more c.loop-text.invariant
