use Rattle.std.proofs.Common.{length}
use Rattle.properties_text.proofs.encoding.utf_8.+fitting_length.Given as goal

abbrev pub decreases-fitting_length : goal.decreases-fitting_length
decreases-fitting_length l = length l.ranges.now
