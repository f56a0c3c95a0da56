use Rattle.std.proofs.Common.{◌-◌, ◌≤◌, length, take}
use Rattle.properties_renaming.specs.Renames.{AreRenamedInTurn, names_in}
use Rattle.properties_renaming.specs.Private.Renames.{IsInEditableEncoding}
use Rattle.properties_renaming.proofs.renames.rename_in_turn.Given as goal

abbrev pub invariant-loop-index : goal.invariant-loop-index
invariant-loop-index l = record {
  within : l.index ≤ length l.renames;
  made : AreRenamedInTurn l.fn.options l.source (names_in (take l.index l.renames)) l.left.items;
  read : IsInEditableEncoding l.fn.options l.left.items;
}

abbrev pub decreases-loop-index : goal.decreases-loop-index
decreases-loop-index l = length l.renames - l.index
