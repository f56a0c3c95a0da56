use Rattle.std.proofs.Common.{◌<◌, ◌++◌, [], ◌∷◌, length, take, ap, sym, ◌∙◌, arith}
use Rattle.std.specs.{Prelude.map, Str.chars}
use Rattle.std.proofs.lemmas.List.{flat_map_more, map_more}
use Rattle.java_properties.specs.Maps.{characters}
use Rattle.properties_tools.specs.{Propedit.Texts.ended, Propedit.Texts.ended_all, declared.propedit.request.Terminator.TheVariants.LineFeed}
use Rattle.properties_tools.proofs.propedit.comment.lines_of.Goals as goal

pub loop-line-preserved : goal.loop-line-preserved
loop-line-preserved c =
    let texts = c.args.texts.now in
    let i = c.loop-line.line-index in
    let below : i < length texts = omega arith in
    let found = map characters (take i texts) in
    let text = chars c.as_str.result.now in
    let one = map_more characters texts i c.line-item.result below ∙ ap (λ v. found ++ characters v ∷ []) (sym c.line-item.is) in
    c.in_ok-push_ended.ensures ∙ ap (λ v. v ++ ended LineFeed text) c.loop-line.invariant ∙ flat_map_more (ended LineFeed) [] found text
    ∙ ap (λ v. ended_all LineFeed (found ++ chars v ∷ [])) c.as_str.ensures.value ∙ ap (ended_all LineFeed) (sym one)
