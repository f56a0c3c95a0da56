use Rattle.std.proofs.Common.{length}
use Rattle.properties_renaming.proofs.renames.+rename_some.Given as goal

abbrev pub decreases-rename_some : goal.decreases-rename_some
decreases-rename_some l = length l.renames.now
