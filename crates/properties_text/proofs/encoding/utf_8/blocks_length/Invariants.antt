use Rattle.std.proofs.Common.{◌≡◌, ◌-◌, ◌≤◌, ℕ, length, take}
use Rattle.std.specs.Str.{IsUtf8}
use Rattle.properties_text.specs.Private.Tails.{ones, OwesTails}
use Rattle.properties_text.proofs.encoding.utf_8.blocks_length.Given as goal

abbrev pub invariant-loop-at : goal.invariant-loop-at
invariant-loop-at l =
    (l.at ≤ length l.bytes) × (l.known ≤ l.at) × (l.wanted ≤ 0xffff) × ((n : ℕ) × (l.wanted ≡ ones n) × OwesTails 0 (take l.at l.bytes) n) × IsUtf8
    (take l.known l.bytes)

abbrev pub decreases-loop-at : goal.decreases-loop-at
decreases-loop-at l = length l.bytes - l.at
