use Rattle.std.proofs.Common.{rules, ◌≡◌, ◌<◌, ◌+◌, ◌-◌, ◌∙◌, ◌∷◌, ap, arith, drop, length, subst, sym, take}
use Rattle.std.proofs.lemmas.List.{drop-map, drop_more, length-map, take-map}
use Rattle.std.specs.Prelude.{true, false}
use Rattle.properties_renaming.specs.KeyEdits.{AreLike, BeginUnlike, key_edit_in, key_edits_in, same_kind}
use Rattle.properties_renaming.specs.Private.KeyEdits.{HasRunSize}
use Rattle.properties_renaming.proofs.EditRuns.{first-others, like-more, run-ends}
use Rattle.properties_renaming.proofs.KeyedValues.{mapped-more}
use Rattle.properties_renaming.proofs.key_edits.run_size.Goals as goal

pub returns-then-not-is_same_kind : goal.returns-then-not-is_same_kind
returns-then-not-is_same_kind c =
    let edits = c.args.edits.now in
    let first = c.first-item.result in
    let others = take (length edits - 1) (drop 1 edits) in
    let i = c.loop-index.index in
    let item = c.index-others-index.result in
    let some : 0 < length edits = omega arith in
    let below : i < length others = omega arith in
    let unlike : same_kind (key_edit_in first) (key_edit_in item) ≡ false = search rules in
    let rest = drop-map key_edit_in i others ∙ ap key_edits_in (drop_more others i item below ∙ ap (λ e. e ∷ drop (i + 1) others) (sym c.index-others-index.is)) in
    subst (λ es. HasRunSize (key_edits_in es) (i + 1)) (sym (first-others edits first some c.first-item.is))
    (run-ends (key_edit_in first) (key_edits_in others) i
    (subst (λ n. i < n) (sym (length-map others key_edit_in)) below)
    (subst (AreLike (key_edit_in first)) (sym (take-map key_edit_in i others)) c.loop-index.invariant)
    (subst (BeginUnlike (key_edit_in first)) (sym rest) unlike))

pub loop-index-preserved : goal.loop-index-preserved
loop-index-preserved c =
    let edits = c.args.edits.now in
    let first = key_edit_in c.first-item.result in
    let others = take (length edits - 1) (drop 1 edits) in
    let i = c.loop-index.index in
    let item = c.index-others-index.result in
    let below : i < length others = omega arith in
    let same : same_kind first (key_edit_in item) ≡ true = search rules in
    subst (AreLike first) (sym (mapped-more key_edit_in others i item below c.index-others-index.is))
    (like-more first (key_edits_in (take i others)) (key_edit_in item) c.loop-index.invariant same)
