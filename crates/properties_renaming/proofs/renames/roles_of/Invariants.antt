use Rattle.std.proofs.Common.{◌≡◌, ◌≤◌, drop, length, true}
use Rattle.properties_renaming.specs.Renames.{names_in}
use Rattle.properties_renaming.specs.Private.Renames.{AreMakeable, AreRolesOf}
use Rattle.properties_renaming.proofs.renames.roles_of.Given as goal

abbrev pub invariant-loop-index : goal.invariant-loop-index
invariant-loop-index l = record {
  within : l.index ≤ length l.renames;
  are : AreRolesOf (names_in l.renames) (names_in (drop l.index l.renames)) l.names.entries;
  makes : l.is_makeable ≡ true → AreMakeable (names_in (drop l.index l.renames));
}

abbrev pub decreases-loop-index : goal.decreases-loop-index
decreases-loop-index l = l.index
