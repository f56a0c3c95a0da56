use Rattle.std.proofs.Common.{length}
use Rattle.properties_c.proofs.PackedGroups.{HasSpanned}
use Rattle.properties_c.proofs.spans.spanned_items.Given as goal

abbrev pub invariant-loop-bytes : goal.invariant-loop-bytes
invariant-loop-bytes l = HasSpanned l.fn.asked l.initial.view l.bytes.items l.view

abbrev pub decreases-loop-bytes : goal.decreases-loop-bytes
decreases-loop-bytes l = length l.view.to_come
