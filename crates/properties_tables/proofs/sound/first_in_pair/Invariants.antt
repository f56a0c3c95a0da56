use Rattle.std.proofs.Common.{◌≡◌, drop}
use Rattle.properties_tables.specs.Sources.{first_in_pair}
use Rattle.properties_tables.proofs.sound.first_in_pair.Given as goal

abbrev pub invariant-loop-escape : goal.invariant-loop-escape
invariant-loop-escape l = first_in_pair l.escapes ≡ first_in_pair (drop l.escape-index l.escapes)
