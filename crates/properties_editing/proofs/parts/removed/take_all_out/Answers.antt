use Rattle.std.proofs.Common.{◌++◌, ◌∷◌, [], sym, subst}
use Rattle.std.proofs.lemmas.List.{drop_more}
use Rattle.properties_editing.specs.Private.BodyParts.{all_places}
use Rattle.properties_editing.specs.Private.PartBounds.{AreEmpty, ArePlainFrom}
use Rattle.properties_editing.proofs.PartsLeft.{IsTaking, taking-next}
use Rattle.properties_editing.proofs.PartBounds.{plain-taken}
use Rattle.properties_editing.proofs.parts.removed.take_all_out.Goals as goal

pub loop-place-preserved : goal.loop-place-preserved
loop-place-preserved c =
    let taking = IsTaking c.args.body.now (all_places c.args.places.now) c.args.parts.now.items in
    let next = subst (λ v. taking (v ++ c.args.places.now.last ∷ []) c.loop-place.parts.items)
    (drop_more c.deref-place-items.result.now c.loop-place.place-index 0 c.loop-place-test.true) c.loop-place.invariant.0 in (
      subst (taking _) (sym c.take_out-gone.ensures.parts) (taking-next _ _ _ _ _ _ next),
      subst (ArePlainFrom c.args.body.now c.args.feeds) (sym c.take_out-gone.ensures.parts)
          (plain-taken _ _ _ _ c.loop-place.invariant.1),
      subst (AreEmpty _ _) (sym c.take_out-gone.ensures.parts) c.take_out-gone.ensures.empty,
    )
