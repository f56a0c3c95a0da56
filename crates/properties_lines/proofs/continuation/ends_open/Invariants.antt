use Rattle.std.proofs.Common.{◌≡◌, ◌≤◌, length, take}
use Rattle.properties_format.specs.Lines.{is_open}
use Rattle.properties_lines.proofs.OpenLines.{turned}
use Rattle.properties_lines.proofs.continuation.ends_open.Given as goal

abbrev pub invariant-loop-end : goal.invariant-loop-end
invariant-loop-end l = record { within : l.end ≤ length l.bytes; turns : is_open l.bytes ≡ turned l.odd (is_open (take l.end l.bytes)) }

abbrev pub decreases-loop-end : goal.decreases-loop-end
decreases-loop-end l = l.end
