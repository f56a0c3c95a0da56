use Rattle.std.proofs.Common.{◌+◌, ◌∙◌, ap, arith, drop, subst, sym, take}
use Rattle.std.specs.Prelude.{is_some}
use Rattle.std.specs.Str.{chars}
use Rattle.std.proofs.lemmas.List.{length-map, length-take-le}
use Rattle.properties_renaming.specs.Commenting.{text_in, texts_in}
use Rattle.properties_renaming.specs.Private.Commenting.{NoneIsWithout, index_at}
use Rattle.properties_renaming.specs.Private.Keyed.{value_at}
use Rattle.properties_renaming.proofs.KeyedValues.{mapped-more, mapped-parts}
use Rattle.properties_renaming.proofs.LastLines.{none-pushed_text}
use Rattle.properties_renaming.proofs.commenting.first_without.Goals as goal

pub returns-then-is_some : goal.returns-then-is_some
returns-then-is_some c =
    let i = c.loop-index.index in
    let comments = c.args.comments.now in
    let comment = c.index-comments-index.result in
    let lines = c.args.lines.now in
    let at = c.value_at.ensures ∙ ap (λ k. value_at c.args.indices.now.entries (chars k)) c.deref.ensures in
    record {
      before = texts_in (take i comments);
      text = text_in comment;
      after = texts_in (drop (i + 1) comments);
      division = mapped-parts text_in comments i comment c.loop-index-test.true c.index-comments-index.is;
      index_is = sym (length-map (take i comments) text_in ∙ length-take-le i comments (let below = c.loop-index-test.true in omega arith));
      none_before = c.loop-index.invariant;
      without = ap (λ o. is_some (index_at lines o 0)) (sym at) ∙ ap is_some (sym c.index_at.ensures) ∙ sym c.is_some.ensures ∙ c.if-is_some.true;
    }

pub loop-index-preserved : goal.loop-index-preserved
loop-index-preserved c =
    let i = c.loop-index.index in
    let indices = c.args.indices.now.entries in
    let lines = c.args.lines.now in
    let comments = c.args.comments.now in
    let comment = c.index-comments-index.result in
    let at = c.value_at.ensures ∙ ap (λ k. value_at indices (chars k)) c.deref.ensures in
    let found = ap (λ o. is_some (index_at lines o 0)) (sym at) ∙ ap is_some (sym c.index_at.ensures) ∙ sym c.is_some.ensures ∙ c.if-is_some.false in
    subst (NoneIsWithout indices lines) (sym (mapped-more text_in comments i comment c.loop-index-test.true c.index-comments-index.is))
    (none-pushed_text indices lines (texts_in (take i comments)) (text_in comment) c.loop-index.invariant (λ without. let none = sym found ∙ without in cc))
