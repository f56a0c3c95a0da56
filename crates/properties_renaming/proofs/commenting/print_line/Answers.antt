use Rattle.std.proofs.Common.{◌++◌, ◌∙◌, [], ◌∷◌, ap, ap₂, append_assoc}
use Rattle.std.specs.Str.{chars}
use Rattle.std.proofs.lemmas.Result.{on_ok_weaker}
use Rattle.properties_text.specs.Printing.{text_bytes}
use Rattle.properties_text.specs.declared.print.Place.TheVariants.{Prefix}
use Rattle.properties_renaming.proofs.commenting.print_line.Goals as goal

pub returns : goal.returns
returns c =
    let style = c.args.style in
    let text = text_bytes c.args.repertoire Prefix (chars c.args.text.now) in
    let signed = c.in_ok-extend-2.ensures.appended ∙ ap (λ w. w ++ style.sign ∷ []) c.in_ok-extend.ensures.appended in
    let gapped = c.in_ok-extend-3.ensures.appended ∙ ap₂ (λ a b. a ++ b) signed c.gap_before.ensures in
    let before = c.in_ok-print_text.ensures ∙ ap (λ w. w ++ text) gapped in
    on_ok_weaker c.extend-4.result (λ h. h ∙ ap (λ w. w ++ style.ending.now) before ∙ simp (append_assoc)) c.extend-4.ensures.appended
