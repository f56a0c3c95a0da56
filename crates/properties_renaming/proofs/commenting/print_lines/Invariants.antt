use Rattle.std.proofs.Common.{◌≡◌, ◌++◌, take}
use Rattle.std.specs.Prelude.{flat_map, map}
use Rattle.properties_items.specs.Texts.{characters}
use Rattle.properties_renaming.specs.Private.Commenting.{comment_line_bytes}
use Rattle.properties_renaming.proofs.commenting.print_lines.Given as goal

abbrev pub invariant-loop-text : goal.invariant-loop-text
invariant-loop-text l = l.line ≡ l.initial.line ++ flat_map (comment_line_bytes l.repertoire l.style) (map characters (take l.text-index l.lines))
