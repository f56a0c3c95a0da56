use Rattle.std.proofs.Common.{◌≡◌}
use Rattle.std.specs.Prelude.{filter_map, take}
use Rattle.properties_editing.specs.Private.KeyOrder.{key_at}
use Rattle.properties_editing.specs.Documents.{characters_of}
use Rattle.properties_editing.proofs.parts.Parts.keys_in_order.Given as goal

abbrev pub invariant-loop-first : goal.invariant-loop-first
invariant-loop-first l = characters_of l.keys.items ≡ filter_map key_at (take l.first-index l.first-items)
