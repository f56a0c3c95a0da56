use Rattle.std.proofs.Common.{◌≡◌, ℕ, List, ◌++◌, false}
use Rattle.properties_format.specs.Valued.{shortened_after}
use Rattle.properties_items.specs.Texts.{characters}
use Rattle.properties_editing.proofs.new_pair.shortened.Given as goal

abbrev pub invariant-loop-character : goal.invariant-loop-character
invariant-loop-character l = (rest : List ℕ) → shortened_after false (l.yielded ++ rest) ≡ characters l.short ++ shortened_after l.was_blank rest
