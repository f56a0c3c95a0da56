use Rattle.std.proofs.Common.{◌≡◌, ◌≤◌, ◌+◌, drop}
use Rattle.properties_c.specs.Private.Results.{feeds}
use Rattle.properties_c.proofs.part.feeds_in_block.Given as goal

abbrev pub invariant-loop-byte : goal.invariant-loop-byte
invariant-loop-byte l = (l.count ≤ l.byte-index) × (l.count + feeds (drop l.byte-index l.block) ≡ feeds l.block)
