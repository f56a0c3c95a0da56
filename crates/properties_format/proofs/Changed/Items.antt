-- The items of a source, and the logical lines of its body: what is malformed, and the contents.
use Rattle.std.proofs.Common.{◌≡◌, ℕ, ◌+◌, List, [], ◌∷◌, length, true, refl, arith}
use Rattle.properties_format.specs.Encoding.{Encoding, byte_order_mark}
use Rattle.properties_format.specs.Lines.{end}
use Rattle.properties_format.specs.Items.{AreItems}
use Rattle.properties_format.specs.Computed.Items.{outcome_of, items_of}
use Rattle.properties_format.specs.Body.{HeldLine, as_groups}
use Rattle.properties_format.specs.Changed.{contents}
use Rattle.properties_format.specs.Computed.Body.{held_groups_of}
use Rattle.properties_format.specs.Computed.Edited.{IsSoundOutcome}
use Rattle.properties_format.proofs.Body.Numbers.{items_of-groups, entries_in}
use Rattle.properties_format.proofs.Changed.Contents.{contents_among}
use Rattle.properties_format.proofs.Edited.Fronts.{logical_lines}
use Rattle.properties_format.proofs.Edits.Lines.{OfEach, logical_lines_of}

-- Nothing in the line is malformed.
abbrev pub IsSoundLine : List ℕ → Type 0
IsSoundLine x = IsSoundOutcome (outcome_of x)

-- ---- groups

-- The entries of groups are items if the lines are sound,
pub lines-items : (n : ℕ) (gs : List (List HeldLine)) → OfEach IsSoundLine (logical_lines (as_groups gs)) → AreItems (entries_in n gs)
lines-items n [] h = tt
lines-items n (g ∷ gs) h = grind (arith, lines-items (n + length g) gs)

-- and only then; and the contents are those of the lines.
items-lines : (n : ℕ) (gs : List (List HeldLine)) → AreItems (entries_in n gs)
    → OfEach IsSoundLine (logical_lines (as_groups gs)) × (contents (entries_in n gs) ≡ contents_among true (logical_lines (as_groups gs)))
items-lines n [] h = (tt, refl)
items-lines n (g ∷ gs) h = grind (arith, items-lines (n + length g) gs)

-- ---- a source

-- If its lines are sound, no item is malformed.
pub sound-source : (e : Encoding) (source : List ℕ) → OfEach IsSoundLine (logical_lines_of e source) → AreItems (items_of e source end)
sound-source e source h = rw (items_of-groups e source) (lines-items 1 (held_groups_of (byte_order_mark e source).encoding (byte_order_mark e source).body) h)

-- If no item is malformed, the lines are sound, and the contents of the items are those among the lines.
pub source-sound : (e : Encoding) (source : List ℕ) → AreItems (items_of e source end)
    → OfEach IsSoundLine (logical_lines_of e source) × (contents (items_of e source end) ≡ contents_among true (logical_lines_of e source))
source-sound e source h = rw (items_of-groups e source) (items-lines 1 _ (rw (items_of-groups e source) at h))
