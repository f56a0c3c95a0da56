use Rattle.std.proofs.Common.{◌-◌, ◌≤◌, length, take}
use Rattle.std.specs.Str.{IsUtf8}
use Rattle.properties_text.proofs.encoding.utf_8.well_formed_length.Given as goal

abbrev pub invariant-loop-blocks_from : goal.invariant-loop-blocks_from
invariant-loop-blocks_from l = (l.at ≤ length l.bytes) × IsUtf8 (take l.at l.bytes)

abbrev pub decreases-loop-blocks_from : goal.decreases-loop-blocks_from
decreases-loop-blocks_from l = length l.bytes - l.at
