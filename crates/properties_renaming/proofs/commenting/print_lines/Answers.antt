use Rattle.std.proofs.Common.{◌++◌, ◌∙◌, ap, append_assoc, sym, take}
use Rattle.std.specs.Prelude.{flat_map, map}
use Rattle.std.specs.Str.{chars}
use Rattle.properties_items.specs.Texts.{characters}
use Rattle.properties_renaming.specs.Private.Commenting.{comment_line_bytes}
use Rattle.properties_renaming.proofs.TextLines.{lines-more}
use Rattle.properties_renaming.proofs.commenting.print_lines.Goals as goal

pub loop-text-preserved : goal.loop-text-preserved
loop-text-preserved c =
    let f = comment_line_bytes c.args.repertoire c.args.style in
    let before = flat_map f (map characters (take c.loop-text.text-index c.args.lines.now)) in
    c.in_ok-print_line.ensures
    ∙ ap (λ w. w ++ f (chars c.deref.result.now)) c.loop-text.invariant
    ∙ append_assoc c.args.line.now before (f (chars c.deref.result.now))
    ∙ ap (λ w. c.args.line.now ++ (before ++ f (chars w))) c.deref.ensures
    ∙ ap (λ w. c.args.line.now ++ w) (sym (lines-more f c.args.lines.now c.loop-text.text-index c.text-item.result c.loop-text-test.true c.text-item.is))
