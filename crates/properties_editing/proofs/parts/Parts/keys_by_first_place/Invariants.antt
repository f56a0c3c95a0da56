use Rattle.std.proofs.Common.{◌≡◌, length}
use Rattle.std.specs.Prelude.{map}
use Rattle.properties_editing.specs.Private.KeyOrder.{key_at}
use Rattle.properties_editing.proofs.KeyOrder.{IsPlacing}
use Rattle.properties_editing.proofs.parts.Parts.keys_by_first_place.Given as goal

abbrev pub invariant-loop-key : goal.invariant-loop-key
invariant-loop-key l =
    (length l.firsts.items ≡ length l.self.parts.items) × IsPlacing l.self.keys.places.entries l.key-iterator (map key_at l.firsts.items)
