use Rattle.std.proofs.Common.{take}
use Rattle.std.specs.Prelude.{map}
use Rattle.properties_items.specs.Texts.{characters}
use Rattle.properties_renaming.specs.Private.Commented.{AreListed}
use Rattle.properties_renaming.proofs.comments.listed_keys.Given as goal

abbrev pub invariant-loop-key : goal.invariant-loop-key
invariant-loop-key l = AreListed (map characters (take l.key-index l.keys)) l.listed.entries
