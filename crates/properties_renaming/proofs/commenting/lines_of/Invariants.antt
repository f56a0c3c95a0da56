use Rattle.std.proofs.Common.{◌≡◌, ◌++◌, ℕ, List, [], false}
use Rattle.properties_format.specs.Lines.{HoldsNoLineEnding}
use Rattle.properties_items.specs.Texts.{characters}
use Rattle.properties_renaming.specs.Private.Commenting.{texts_before, texts_with}
use Rattle.properties_renaming.proofs.commenting.lines_of.Given as goal

abbrev pub invariant-loop-character : goal.invariant-loop-character
invariant-loop-character l = record {
  same : (rest : List ℕ) → texts_with [] [] false (l.yielded ++ rest) ≡ texts_before l.lines rest;
  plain : HoldsNoLineEnding (characters l.lines.last);
}
