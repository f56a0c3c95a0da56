use Rattle.std.proofs.Common.{◌++◌, ◌∙◌, ap, inl, inr, refl, subst, sym}
use Rattle.std.specs.Prelude.{flat_map, map}
use Rattle.std.proofs.lemmas.Result.{on_ok_weaker}
use Rattle.properties_items.specs.Texts.{characters}
use Rattle.properties_renaming.specs.Commenting.{comment_line}
use Rattle.properties_renaming.specs.Private.Commenting.{comment_line_bytes, style_in}
use Rattle.properties_renaming.specs.Private.Copied.{IsReplacedIn}
use Rattle.properties_renaming.proofs.NewComments.{head-kept, head-replaced, lines-printed, texts-other, texts-same}
use Rattle.properties_renaming.proofs.commenting.set_lines.Goals as goal

pub returns-then-eq : goal.returns-then-eq
returns-then-eq c = λ t s prints h.
    let texts = c.args.comment.now.texts.items in
    let lines = c.in_ok-lines.lines.items in
    head-kept c.args.copied.now c.args.comment.now _ h c.requires.done (record {
      texts = map characters texts;
      are_texts = h.are_texts;
      lines = map characters lines;
      are_lines = c.in_ok-lines.ensures;
      set = inl (texts-same texts lines (sym c.eq.ensures ∙ c.if-eq.true), refl);
    })

pub returns : goal.returns
returns c = on_ok_weaker c.replace.result (λ r t s prints h.
    let look = c.args.look in
    let texts = c.args.comment.now.texts.items in
    let lines = c.in_ok-lines.lines.items in
    let style = c.below-style.result in
    let head = flat_map (comment_line t (style_in style)) (map characters lines) in
    let looks = rw c.source.ensures at c.style_for.ensures in
    let printed = c.as_slice.ensures
    ∙ c.in_ok-print_lines.ensures
    ∙ ap (λ w. w ++ flat_map (comment_line_bytes look.repertoire style) (map characters c.deref.result.now)) c.new-new.ensures
    ∙ ap (λ w. flat_map (comment_line_bytes look.repertoire style) (map characters w)) c.deref.ensures.value
    ∙ lines-printed t look.repertoire style (map characters lines) prints in
    head-replaced s c.args.copied.now c.replace.new.self c.args.comment.now _ head (record {
      texts = map characters texts;
      are_texts = h.are_texts;
      lines = map characters lines;
      are_lines = c.in_ok-lines.ensures;
      set = inr (texts-other texts lines (sym c.eq.ensures ∙ c.if-eq.false), (style_in c.style_for.result, looks s h, ap (λ k. flat_map (comment_line t k) (map characters lines)) c.below-style.ensures));
    }) (subst (λ w. IsReplacedIn c.args.copied.now c.args.comment.now.headed.start c.args.comment.now.headed.group.start w c.replace.new.self) printed r)) c.replace.ensures
