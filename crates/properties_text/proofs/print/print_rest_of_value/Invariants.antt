use Rattle.std.proofs.Common.{length}
use Rattle.properties_text.proofs.PrintedTexts.Values.{IsPrintedTo}
use Rattle.properties_text.proofs.print.print_rest_of_value.Given as goal

abbrev pub invariant-loop-plain : goal.invariant-loop-plain
invariant-loop-plain l = IsPrintedTo l.encoding l.repertoire l.escaped l.initial.line l.bytes l.rest l.line

abbrev pub decreases-loop-plain : goal.decreases-loop-plain
decreases-loop-plain l = length l.rest
