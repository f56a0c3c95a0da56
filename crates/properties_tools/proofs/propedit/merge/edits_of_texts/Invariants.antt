use Rattle.std.proofs.Common.{length}
use denote.Text.{Utf8}
use denote.Shadow.{shadow}
use Rattle.java_properties.specs.Editing.{edits_in}
use Rattle.properties_tools.proofs.propedit.merge.edits_of_texts.Given as goal
use Rattle.properties_tools.proofs.Merging.{TookTexts}

abbrev pub invariant-loop-rest : goal.invariant-loop-rest
invariant-loop-rest l = shadow (Utf8 l.rest) × TookTexts l.file l.rest (edits_in l.edits.items)

abbrev pub decreases-loop-rest : goal.decreases-loop-rest
decreases-loop-rest l = length l.rest
