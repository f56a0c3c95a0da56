use Rattle.std.proofs.Common.{◌≡◌, ◌∙◌, ap, arith, length, subst, sym, take}
use Rattle.std.specs.Str.{chars}
use Rattle.std.proofs.lemmas.List.{length-map, length-take-le}
use Rattle.properties_renaming.specs.Commenting.{text_in, texts_in}
use Rattle.properties_renaming.specs.Private.Commenting.{AreIndicesOf}
use Rattle.properties_renaming.specs.Private.Keyed.{GivesValue}
use Rattle.properties_renaming.proofs.KeyedValues.{mapped-more}
use Rattle.properties_renaming.proofs.LastLines.{none-indexed, one-indexed}
use Rattle.properties_renaming.proofs.commenting.indices_of.Goals as goal

pub loop-index-init : goal.loop-index-init
loop-index-init c = none-indexed c.new-indices.result.entries c.new-indices.ensures.empty

pub loop-index-preserved : goal.loop-index-preserved
loop-index-preserved c =
    let i = c.loop-index.index in
    let comments = c.args.comments.now in
    let comment = c.index-comments-index.result in
    let old = c.loop-index.indices.entries in
    let new = c.give_value.new.values.entries in
    let before = texts_in (take i comments) in
    let size : length before ≡ i = length-map (take i comments) text_in ∙ length-take-le i comments (let below = c.loop-index-test.true in omega arith) in
    let gives = subst (λ n. GivesValue old (text_in comment).key n new) (sym size) (rw (ap chars c.deref.ensures) at c.in_ok-give_value.ensures) in
    subst (λ ts. AreIndicesOf ts new) (sym (mapped-more text_in comments i comment c.loop-index-test.true c.index-comments-index.is))
    (one-indexed before (text_in comment) old new c.loop-index.invariant gives)
