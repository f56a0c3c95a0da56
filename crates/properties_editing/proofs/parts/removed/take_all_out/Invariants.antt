use Rattle.std.proofs.Common.{◌++◌, ◌∷◌, [], drop}
use Rattle.properties_editing.specs.Private.PartBounds.{AreEmpty, ArePlainFrom}
use Rattle.properties_editing.specs.Private.BodyParts.{all_places}
use Rattle.properties_editing.proofs.PartsLeft.{IsTaking}
use Rattle.properties_editing.proofs.parts.removed.take_all_out.Given as goal

abbrev pub invariant-loop-place : goal.invariant-loop-place
invariant-loop-place l =
    IsTaking l.body (all_places l.places) l.fn.parts.items (drop l.place-index l.place-items ++ l.places.last ∷ []) l.parts.items
    × ArePlainFrom l.body l.feeds l.parts.items × AreEmpty l.gone.start l.gone.end l.parts.items
