use Rattle.std.proofs.Common.{◌≡◌, ◌<◌, ◌+◌, ◌-◌, ◌∙◌, ◌∷◌, ap, ap₂, arith, drop, length, subst, sym}
use Rattle.std.specs.Str.{chars}
use Rattle.std.proofs.lemmas.List.{drop_more, get_or-map, length-map}
use Rattle.properties_renaming.specs.Renames.{NewName, name_in, names_in, new_name}
use Rattle.properties_renaming.specs.Private.Renames.{AreMakeable, AreRolesOf, IsMakeable}
use Rattle.properties_renaming.proofs.renames.roles_of.Goals as goal
use Rattle.properties_renaming.proofs.renames.roles_of.Goals.{then-is_makeable, else-is_makeable}

pub loop-index-preserved : goal.loop-index-preserved
loop-index-preserved c =
    let renames = c.args.renames.now in
    let names = names_in renames in
    let i = c.loop-index.index - 1 in
    let rename = c.index-renames-index.result in
    let h = c.loop-index.invariant in
    let below = h.within in
    let within : i < length renames = omega arith in
    let more : i + 1 ≡ c.loop-index.index = omega arith in
    let size : length names ≡ length renames = length-map renames name_in in
    let after = names_in (drop c.loop-index.index renames) in
    let name : new_name (chars c.deref-in-loop-index.result.now) (chars c.deref-in-loop-index-2.result.now) ≡ name_in rename =
    ap₂ (λ old new. new_name (chars old) (chars new)) c.deref-in-loop-index.ensures c.deref-in-loop-index-2.ensures in
    let rest : name_in rename ∷ after ≡ names_in (drop i renames) =
    sym (ap names_in (drop_more renames i rename within ∙ ap₂ (λ r n. r ∷ drop n renames) (sym c.index-renames-index.is) more)) in
    let here = λ (d : NewName). get_or-map name_in renames i rename d within ∙ ap name_in (sym c.index-renames-index.is) ∙ sym name in
    record {
      within = omega arith;
      are =
          subst (λ ns. AreRolesOf names ns c.add_names.new.roles.entries) (ap (λ n. n ∷ after) name ∙ rest)
          (c.in_ok-add_names.ensures names after (subst (λ n. i < n) (sym size) within) here h.are);
      makes = λ on. subst AreMakeable rest (elim c.if-is_makeable.branch [
        | then-is_makeable w ↦
            let first : new_name (chars w.deref.result.now) (chars w.deref-then-is_makeable.result.now) ≡ name_in rename =
            ap₂ (λ old new. new_name (chars old) (chars new)) w.deref.ensures w.deref-then-is_makeable.ensures in (
              subst (λ n. IsMakeable n after) first (w.is_first_makeable-is_makeable.ensures (sym w.is_makeable-is ∙ on) names after h.are),
              h.makes w.if-is_makeable.true,
            )
        | else-is_makeable w ↦ absurd (let off = w.if-is_makeable.false in let is = w.is_makeable-is in cc)
      ]);
    }
