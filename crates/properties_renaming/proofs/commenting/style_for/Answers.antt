use Rattle.properties_renaming.specs.Private.Commenting.{style_in}
use Rattle.properties_renaming.proofs.NewComments.{model-held, pair-held, style-as_line, style-as_pair}
use Rattle.properties_renaming.proofs.commenting.style_for.Goals as goal

pub style_of-requires : goal.style_of-requires
style_of-requires c =
    let h = c.requires.1 in
    let m = rw c.in-Some.is at h.model in (m.line, model-held h c.in-Some.line m)

pub style_above-requires : goal.style_above-requires
style_above-requires c = let s = c.requires.0 in (s.group, pair-held c.requires.1)

pub returns-in-Some : goal.returns-in-Some
returns-in-Some c = λ s h. style-as_line h c.args.other.now c.in-Some.line (style_in c.style_of.result) c.in-Some.is c.style_of.ensures

pub returns-in-None : goal.returns-in-None
returns-in-None c = λ s h. style-as_pair h c.args.other.now (style_in c.style_above.result) c.in-None.is c.style_above.ensures
