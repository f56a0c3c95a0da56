use Rattle.std.proofs.Common.{length}
use Rattle.std.specs.Str.{chars}
use Rattle.properties_text.specs.Encoding.{encoding_of}
use Rattle.java_properties.specs.Private.PassedGroups.{passed_texts}
use Rattle.java_properties.proofs.ViewedComments.{HaveShown}
use Rattle.java_properties.proofs.comments.comment_of.Given as goal

abbrev pub invariant-loop-passed : goal.invariant-loop-passed
invariant-loop-passed l = HaveShown (encoding_of l.fn.encoding) l.source (chars l.key) l.view (passed_texts l.passed)

abbrev pub decreases-loop-passed : goal.decreases-loop-passed
decreases-loop-passed l = length l.view.to_come
