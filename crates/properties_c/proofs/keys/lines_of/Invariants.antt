use Rattle.std.proofs.Common.{◌≡◌, ◌++◌, drop}
use Rattle.std.specs.{List.flat_map, Prelude.map}
use Rattle.properties_items.specs.Texts.{characters}
use Rattle.properties_c.specs.Keys.{text_line}
use Rattle.properties_c.proofs.keys.lines_of.Given as goal

abbrev pub invariant-loop-text : goal.invariant-loop-text
invariant-loop-text l =
    l.lines.items ++ flat_map text_line (map characters (drop l.text-index l.texts)) ≡ flat_map text_line (map characters l.texts)
